-- What the parts of a page show, and what a layer answers.
use Rattle.std.proofs.Common.{◌≡◌, ℕ, suc, ◌+◌, ◌-◌, ◌<◌, ◌≤◌, min, Bool, true, false, cond, ◌&&◌, leb, [], ◌∷◌, length, take, drop, Some, None, Ok, Err, Option, sym, refl, ap, ◌∙◌, add-one, arith}
use Rattle.std.proofs.lemmas.List.{length-take, length-map, length-drop}
use Rattle.std.specs.Option.{ok_or, option_map}
use Rattle.std.specs.Result.{result_ok}
use Rattle.pages.specs.Limits.{max_placements}
use Rattle.pages.specs.Meaning.{Meaning, Lawful, has, slot_at, laid_at, place_at, fault}
use Rattle.pages.specs.declared.faults.Refusal.TheVariants.{NoSuch}
use Rattle.pages.specs.declared.maps.Placement.{Placement}
use Rattle.layers.specs.Layering.{Parts, moved, placed, part_shown, shown, layered, deeper}
use Rattle.layers.specs.declared.extent.Extent.{Extent}
use Rattle.layers.specs.declared.parts.Part.{Part}
use Rattle.std.specs.List.{slice_get}
use Rattle.layers.proofs.Slots.{drop-some, drop-none, slot_mapped, slot_none, slot_left, slot_right, slot_take, slot_over}

pub in_range : (p n : ℕ) → 1 ≤ p → p ≤ n → (leb 1 p && leb p n) ≡ true
in_range p n a b = grind arith

-- ---- one part, as the source below answers for its page

-- the placement in a slot of a page, as `place` answers for it
pub slot_placed : (m : Meaning) (q s : ℕ) → result_ok (place_at m q s) ≡ slot_at (placed m q) s
slot_placed m q s = by_cases (has m q) (slot_at (m.page q) s) refl
  where
    by_cases : (b : Bool) (o : Option Placement) → o ≡ slot_at (m.page q) s →
        result_ok (cond b (ok_or o (fault NoSuch m.depth q)) (Err (fault NoSuch m.depth q))) ≡ slot_at (cond b (m.page q) []) s
    by_cases true None h = h
    by_cases true (Some p) h = h
    by_cases false o h = sym (slot_none s)

-- and in a slot of a part
pub slot_moved : (m : Meaning) (x : Part) (s : ℕ) → option_map (moved x.map) (result_ok (place_at m x.page s)) ≡ slot_at (part_shown m x) s
slot_moved m x s = ap (option_map (moved x.map)) (slot_placed m x.page s) ∙ sym (slot_mapped (moved x.map) (placed m x.page) s)

module _ (m : Meaning) (l : Lawful m) where
  few : (b : Bool) (q : ℕ) → b ≡ has m q → length (cond b (m.page q) []) ≤ max_placements
  few true q e = l.laid q (grind arith) (grind arith)
  few false q e = omega arith

  -- a page has no more placements than it may
  pub placed_few : (q : ℕ) → length (placed m q) ≤ max_placements
  placed_few q = few (has m q) q refl

  pub part_few : (x : Part) → length (part_shown m x) ≤ max_placements
  part_few x = omega (arith, length-map (placed m x.page) (moved x.map), placed_few x.page)

-- ---- the placements of a page from one on

module _ (m : Meaning) (q s : ℕ) where
  here : result_ok (place_at m q (s + 1)) ≡ slice_get (placed m q) s
  here = ap (λ (k : ℕ). result_ok (place_at m q k)) (add-one s) ∙ slot_placed m q (suc s)

  pub last_placed : result_ok (place_at m q (s + 1)) ≡ None → drop s (placed m q) ≡ []
  last_placed h = drop-none (placed m q) s (sym here ∙ h)

  module _ (l : Lawful m) (p : Placement) (h : result_ok (place_at m q (s + 1)) ≡ Some p) where
    pub next_placed : drop s (placed m q) ≡ p ∷ drop (s + 1) (placed m q)
    next_placed = drop-some (placed m q) s p (sym here ∙ h) ∙ ap (λ (j : ℕ). p ∷ drop j (placed m q)) (sym (add-one s))

    pub next_within : s + 1 ≤ max_placements
    next_within = let e = ap length next_placed in omega (arith, length-drop s (placed m q), placed_few m l q)

-- ---- the parts of a page from one on

module _ (m : Meaning) (x : Part) (xs : Parts) (s n : ℕ) (f : n ≡ length (part_shown m x)) where
  pub slot_here : s ≤ n → slot_at (shown m (x ∷ xs)) s ≡ slot_at (part_shown m x) s
  slot_here h = slot_left (part_shown m x) (shown m xs) s (omega arith)

  pub slot_on : n < s → slot_at (shown m (x ∷ xs)) s ≡ slot_at (shown m xs) (s - n)
  slot_on h = slot_right (part_shown m x) (shown m xs) s (omega arith) ∙ ap (λ (k : ℕ). slot_at (shown m xs) (s - k)) (sym f)

-- ---- the questions

module _ (show : ℕ → Parts) (x : Extent) (m : Meaning) (p : ℕ) (a : 1 ≤ p) (b : p ≤ x.pages) where
  pub laid_layered : (k : ℕ) → k ≡ length (shown m (show p)) → Ok (min k max_placements) ≡ laid_at (layered show x m) p
  laid_layered k d =
      let e : min k max_placements ≡ length (take max_placements (shown m (show p))) = omega (arith, length-take max_placements (shown m (show p))) in
      ap (λ (i : ℕ). Ok i) e
      ∙ ap (λ (v : Bool). cond v (Ok (length (take max_placements (shown m (show p))))) (Err (fault NoSuch (deeper m) p))) (sym (in_range p x.pages a b))

  place_range : (s : ℕ) → ok_or (slot_at (take max_placements (shown m (show p))) s) (fault NoSuch (deeper m) p) ≡ place_at (layered show x m) p s
  place_range s =
      ap (λ (v : Bool). cond v (ok_or (slot_at (take max_placements (shown m (show p))) s) (fault NoSuch (deeper m) p)) (Err (fault NoSuch (deeper m) p))) (sym (in_range p x.pages a b))

  pub place_layered : (s : ℕ) (o : Option Placement) → s ≤ max_placements → o ≡ slot_at (shown m (show p)) s →
      ok_or o (fault NoSuch (deeper m) p) ≡ place_at (layered show x m) p s
  place_layered s o c e = ap (λ (q : Option Placement). ok_or q (fault NoSuch (deeper m) p)) (e ∙ sym (slot_take max_placements (shown m (show p)) s c)) ∙ place_range s

  pub refused_layered : (s : ℕ) → max_placements < s → Err (fault NoSuch (deeper m) p) ≡ place_at (layered show x m) p s
  refused_layered s c = ap (λ (q : Option Placement). ok_or q (fault NoSuch (deeper m) p)) (sym (slot_over max_placements (shown m (show p)) s c)) ∙ place_range s
