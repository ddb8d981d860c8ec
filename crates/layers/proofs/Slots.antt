-- Lists of placements by their slots, and lists by their indices.
use Rattle.std.specs.Prelude.{◌≡◌, ℕ, zero, suc, ◌+◌, ◌-◌, ◌<◌, ◌≤◌, Option, MatchOption, List, [], ◌∷◌, ◌++◌, map, length, take, drop, Some, None, refl}
use Rattle.std.proofs.Common.{sym, ap, ◌∙◌, add-one, arith}
use Rattle.std.specs.List.{slice_get}
use Rattle.std.specs.Option.{option_map}
use Rattle.std.proofs.lemmas.List.{length-drop, length-take}
use Rattle.std.proofs.lemmas.Option.{slice_get-map, slice_get_past}
use Rattle.pages.specs.Meaning.{slot_at}
use Rattle.pages.specs.declared.maps.Placement.{Placement}

-- the element at i, and those after it
pub drop-some : {X : Type 0} (xs : List X) (i : ℕ) (x : X) → slice_get xs i ≡ Some x → drop i xs ≡ x ∷ drop (suc i) xs
drop-some [] i x h = let z : ◌≡◌ {A = ℕ} 0 1 = cc in absurd (omega arith)
drop-some {X} (y ∷ xs) zero x h = let e : y ≡ x = cc in ap (λ (z : X). z ∷ xs) e
drop-some (y ∷ xs) (suc i) x h = drop-some xs i x h

pub drop-none : {X : Type 0} (xs : List X) (i : ℕ) → slice_get xs i ≡ None → drop i xs ≡ []
drop-none [] zero h = refl
drop-none [] (suc i) h = refl
drop-none (y ∷ xs) zero h = let z : ◌≡◌ {A = ℕ} 0 1 = cc in absurd (omega arith)
drop-none (y ∷ xs) (suc i) h = drop-none xs i h

-- one step over a list
pub next_part : {X : Type 0} (xs : List X) (i : ℕ) → i < length xs → (r : Option X) → r ≡ slice_get xs i →
    MatchOption r ((drop i xs ≡ []) × (drop (i + 1) xs ≡ [])) (λ x. drop i xs ≡ x ∷ drop (i + 1) xs)
next_part xs i h None e = let l = ap length (drop-none xs i (sym e)) in absurd (omega (arith, length-drop i xs))
next_part {X} xs i h (Some x) e = drop-some xs i x (sym e) ∙ ap (λ (j : ℕ). x ∷ drop j xs) (sym (add-one i))

pub slot_mapped : (f : Placement → Placement) (ps : List Placement) (s : ℕ) → slot_at (map f ps) s ≡ option_map f (slot_at ps s)
slot_mapped f ps zero = refl
slot_mapped f ps (suc i) = slice_get-map f ps i

pub slot_none : (s : ℕ) → slot_at [] s ≡ None
slot_none zero = refl
slot_none (suc i) = refl

nth_left : (a b : List Placement) (s : ℕ) → s < length a → slice_get (a ++ b) s ≡ slice_get a s
nth_left [] b s h = absurd (omega arith)
nth_left (x ∷ a) b zero h = refl
nth_left (x ∷ a) b (suc s) h = nth_left a b s (omega arith)

pub slot_left : (a b : List Placement) (s : ℕ) → s ≤ length a → slot_at (a ++ b) s ≡ slot_at a s
slot_left a b zero h = refl
slot_left a b (suc s) h = nth_left a b s (omega arith)

nth_right : (a b : List Placement) (s : ℕ) → length a ≤ s → slice_get (a ++ b) s ≡ slot_at b (suc s - length a)
nth_right [] b s h = let e : suc s ≡ suc s - 0 = omega arith in ap (slot_at b) e
nth_right (x ∷ a) b zero h = absurd (omega arith)
nth_right (x ∷ a) b (suc s) h = let e : suc s - length a ≡ suc (suc s) - suc (length a) = omega arith in nth_right a b s (omega arith) ∙ ap (slot_at b) e

pub slot_right : (a b : List Placement) (s : ℕ) → length a < s → slot_at (a ++ b) s ≡ slot_at b (s - length a)
slot_right a b zero h = absurd (omega arith)
slot_right a b (suc s) h = nth_right a b s (omega arith)

pub slot_take : (k : ℕ) (ps : List Placement) (s : ℕ) → s ≤ k → slot_at (take k ps) s ≡ slot_at ps s
slot_take k ps zero h = refl
slot_take zero ps (suc s) h = absurd (omega arith)
slot_take (suc k) [] (suc s) h = refl
slot_take (suc k) (p ∷ ps) (suc zero) h = refl
slot_take (suc k) (p ∷ ps) (suc (suc s)) h = slot_take k ps (suc s) (omega arith)

pub slot_over : (k : ℕ) (ps : List Placement) (s : ℕ) → k < s → slot_at (take k ps) s ≡ None
slot_over k ps zero h = absurd (omega arith)
slot_over k ps (suc s) h = slice_get_past (take k ps) s (omega (arith, length-take k ps))
