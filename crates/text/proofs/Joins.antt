-- Texts written one after the other in a loop.
use Rattle.std.proofs.Common.{◌≡◌, ℕ, ◌+◌, ◌<◌, List, [], ◌∷◌, ◌++◌, length, get_or, take, drop, sym, refl, ap, ◌∙◌, append_assoc}
use Rattle.std.specs.List.{flat_map}
use Rattle.std.proofs.lemmas.List.{take_more, take-append-drop}

module _ {X A : Type 0} (f : X → List A) where
  pub joined-append : (xs ys : List X) → flat_map f (xs ++ ys) ≡ flat_map f xs ++ flat_map f ys
  joined-append [] ys = refl
  joined-append (x ∷ xs) ys = ap (λ z. f x ++ z) (joined-append xs ys) ∙ sym (append_assoc (f x) (flat_map f xs) (flat_map f ys))

  pub joined_next : (xs : List X) (i : ℕ) (d : X) → i < length xs → flat_map f (take i xs) ++ f (get_or xs i d) ≡ flat_map f (take (i + 1) xs)
  joined_next xs i d h =
      sym (ap (flat_map f) (take_more xs i d h) ∙ joined-append (take i xs) (get_or xs i d ∷ []) ∙ ap (λ z. flat_map f (take i xs) ++ z) (one (f (get_or xs i d))))
    where
      one : (ys : List A) → ys ++ [] ≡ ys
      one ys = mathlib.Core.List.append-nil ys

  -- the texts before one, that one, and those after it
  pub joined_all : (xs : List X) (i : ℕ) (d : X) → i < length xs → (flat_map f (take i xs) ++ f (get_or xs i d)) ++ flat_map f (drop (i + 1) xs) ≡ flat_map f xs
  joined_all xs i d h =
      ap (λ z. z ++ flat_map f (drop (i + 1) xs)) (joined_next xs i d h)
      ∙ sym (joined-append (take (i + 1) xs) (drop (i + 1) xs)) ∙ ap (flat_map f) (take-append-drop (i + 1) xs)
