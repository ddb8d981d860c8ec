-- Inks as a source answers for them.
use Rattle.std.proofs.Common.{◌≡◌, ℕ, ◌+◌, ◌<◌, ◌≤◌, Bool, true, false, cond, leb, List, [], length, None, Ok, Err, sym, refl, ap, ◌∙◌, arith}
use Rattle.std.proofs.lemmas.Bool.{cond-true, cond-false, le-leb, leb-false, leb-true, lt-leb}
use Rattle.std.specs.Result.{result_ok}
use Rattle.pages.specs.Limits.{max_ink}
use Rattle.pages.specs.Meaning.{Meaning, Lawful, fault, pour_at, poured}
use Rattle.pages.specs.Splice.{splice}
use Rattle.pages.specs.declared.faults.Refusal.TheVariants.{NoSuch, ShortBuffer}
use Rattle.sides.specs.Texts.{ink_of}

module _ (m : Meaning) (l : ℕ) where
  pub no_ink : m.leaves < l → ink_of m l ≡ []
  no_ink h = cond-false (leb l m.leaves) (m.ink l) [] (lt-leb l m.leaves h)

  pub ink_is : l ≤ m.leaves → ink_of m l ≡ m.ink l
  ink_is h = cond-true (leb l m.leaves) (m.ink l) [] (le-leb l m.leaves h)

  pub ink_short : Lawful m → length (ink_of m l) ≤ max_ink
  ink_short law = by_cases (leb l m.leaves) refl
    where
      by_cases : (t : Bool) → t ≡ leb l m.leaves → length (cond t (m.ink l) []) ≤ max_ink
      by_cases true e = law.inked l (leb-true l m.leaves (sym e))
      by_cases false e = omega arith

  -- an ink that a source did not pour does not fit, and nothing is written
  module _ (h : l ≤ m.leaves) (b b' : List ℕ) (at : ℕ) (k : b' ≡ poured m l b at) where
    pub unpoured : result_ok (pour_at m l (length b) at) ≡ None → (length b < at + length (ink_of m l)) × (b' ≡ b)
    unpoured r =
        let t = le-leb l m.leaves h in
        let u = by_cases (leb (at + length (m.ink l)) (length b)) refl (sym (ap result_ok (cond-true (leb l m.leaves) _ (Err (fault NoSuch 1 l)) t)) ∙ r) (k ∙ cond-true (leb l m.leaves) _ b t) in
        let e = ap (λ (ink : List ℕ). length ink) (ink_is h) in
        (omega (arith, u.0), u.1)
      where
        by_cases : (t : Bool) → t ≡ leb (at + length (m.ink l)) (length b) → result_ok (cond t (Ok (at + length (m.ink l))) (Err (fault ShortBuffer 1 0))) ≡ None → b' ≡ cond t (splice b at (m.ink l)) b
            → (length b < at + length (m.ink l)) × (b' ≡ b)
        by_cases true e n q = let z : ◌≡◌ {A = ℕ} 0 1 = cc in absurd (omega arith)
        by_cases false e n q = (leb-false _ _ (sym e), q)
