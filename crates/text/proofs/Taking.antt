-- What a sink took of a text that does not fit.
use Rattle.std.proofs.Common.{◌≡◌, ℕ, ◌+◌, ◌<◌, Bool, true, false, cond, leb, List, ◌++◌, length, None, Ok, Err, Option, is_some, sym, refl, ap, subst, arith}
use Rattle.std.proofs.lemmas.Bool.{leb-false}
use Rattle.std.specs.Result.{result_ok}
use Rattle.pages.specs.Meaning.{fault, end_at, written}
use Rattle.pages.specs.Splice.{splice}
use Rattle.pages.specs.declared.faults.Refusal.TheVariants.{ShortBuffer}
use Rattle.text.specs.Sinks.{Begun, Filled}
use Rattle.text.specs.declared.sinks.Lent.{Lent}

-- `takes`, and two laws of it
module _ {S : Type 0} {takes : S → List ℕ → Bool → S → Type 0}
    (both : (s t u : S) (xs ys : List ℕ) (fit : Bool) → takes s xs true t → takes t ys fit u → takes s (xs ++ ys) fit u)
    (short : (s t : S) (xs ys : List ℕ) → takes s xs false t → takes s (xs ++ ys) false t) where
  -- what does not fit after a front of the text ends it
  pub refused : {s t u : S} {A : Type 0} {r : Option A} (xs ys zs all : List ℕ) → (xs ++ ys) ++ zs ≡ all → r ≡ None → takes s xs true t → takes t ys false u → takes s all (is_some r) u
  refused {s} {t} {u} xs ys zs all e n p q =
      subst (λ fit. takes s all fit u) (sym (ap is_some n))
      (subst (λ text. takes s text false u) e (short s u (xs ++ ys) zs (both s t u xs ys false p q)))

  -- nor does what begins with it
  pub refused_first : {s u : S} {A : Type 0} {r : Option A} (ys zs all : List ℕ) → ys ++ zs ≡ all → r ≡ None → takes s ys false u → takes s all (is_some r) u
  refused_first {s} {u} ys zs all e n q =
      subst (λ fit. takes s all fit u) (sym (ap is_some n)) (subst (λ text. takes s text false u) e (short s u ys zs q))

-- a text that a buffer did not take
pub not_filled : {s t : Lent} {A : Type 0} {r : Option A} (text : List ℕ) → r ≡ None → Begun s text t → Filled s text (is_some r) t
not_filled {s} {t} text n p = subst (λ fit. Filled s text fit t) (sym (ap is_some n)) p

-- a text that was not written does not fit
pub unwritten : (text b b' : List ℕ) (at : ℕ) → b' ≡ written text b at → result_ok (end_at text (length b) at) ≡ None → (length b < at + length text) × (b' ≡ b)
unwritten text b b' at k n = by_cases (leb (at + length text) (length b)) refl n k
  where
    by_cases : (t : Bool) → t ≡ leb (at + length text) (length b) → result_ok (cond t (Ok (at + length text)) (Err (fault ShortBuffer 1 0))) ≡ None → b' ≡ cond t (splice b at text) b → (length b < at + length text) × (b' ≡ b)
    by_cases true e m q = let z : ◌≡◌ {A = ℕ} 0 1 = cc in absurd (omega arith)
    by_cases false e m q = (leb-false _ _ (sym e), q)
