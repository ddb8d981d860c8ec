-- Laws of `splice` that the laws of sinks rest on.
use Rattle.std.proofs.Common.{◌≡◌, ℕ, ◌+◌, ◌≤◌, List, [], ◌++◌, length, sym, refl, ap, ◌∙◌, add-zero, arith, length-append, length-drop, length-take}
use lib.Seq.{paste}
use Rattle.std.proofs.lemmas.List.{take-append-drop}
use Rattle.std.proofs.lemmas.List.Edits.{paste_all, paste-paste}
use Rattle.pages.specs.Splice.{splice}

module _ {X : Type 0} where
  pub length-splice : (b : List X) (at : ℕ) (xs : List X) → at + length xs ≤ length b → length (splice b at xs) ≡ length b
  unfolding splice
  length-splice b at xs h = simp (length-append, length-take, length-drop) (omega arith)

  pub splice_none : (b : List X) (at : ℕ) → splice b at [] ≡ b
  unfolding splice
  splice_none b at = rw (add-zero, take-append-drop)

  pub pasted : (b : List X) (at : ℕ) (xs : List X) → splice b at xs ≡ paste b at xs (length xs)
  unfolding splice
  pasted b at xs = sym (paste_all b at xs (length xs) refl)

  pub splice_splice : (b : List X) (at : ℕ) (xs ys : List X) → at ≤ length b → splice (splice b at xs) (at + length xs) ys ≡ splice b at (xs ++ ys)
  splice_splice b at xs ys h =
      pasted (splice b at xs) (at + length xs) ys
      ∙ ap (λ z. paste z (at + length xs) ys (length ys)) (pasted b at xs)
      ∙ paste-paste b at xs ys (length xs) (length ys) refl refl h
      ∙ ap (paste b at (xs ++ ys)) (sym (length-append xs ys))
      ∙ sym (pasted b at (xs ++ ys))
