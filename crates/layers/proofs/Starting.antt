-- A layer that shows each page below as it is, which is how most layers start.
use Rattle.std.proofs.Common.{◌≡◌, ℕ, ◌≤◌, Bool, true, cond, ◌&&◌, List, [], ◌∷◌, length, is_some, sym, refl, ap, ◌∙◌, subst, arith, length-append}
use Rattle.pages.specs.Limits.{max_placements}
use Rattle.pages.specs.Maps.{fits, followed, composed, identity}
use Rattle.pages.specs.Meaning.{Meaning, Lawful, all_sound}
use Rattle.pages.specs.declared.maps.Map.{Map}
use Rattle.pages.specs.declared.maps.Placement.{Placement}
use Rattle.pages.proofs.Composing.{maps_compose}
use Rattle.pages.proofs.Scaling.{fit, composed_some}
use Rattle.layers.specs.Layering.{Parts, whole, shown, part_shown, all_follow, parts_follow, Exact}
use Rattle.layers.specs.declared.parts.Part.{Part}
use Rattle.layers.proofs.Showing.{part_few, in_range}
use Rattle.layers.proofs.Exactly.{near_exact}

-- ---- followed by the identity, a map in its bounds is itself

pub same_map : (t : Map) → fits t ≡ true → followed t identity ≡ t
same_map t f = maps_compose.last t (fit t f).quarter

same_composed : (t : Map) → fits t ≡ true → is_some (composed t identity) ≡ true
same_composed t f = ap is_some (sym (composed_some t identity f refl (ap fits (same_map t f) ∙ f)))

pub all_same : (n : ℕ) (ps : List Placement) → all_sound n ps ≡ true → all_follow identity ps ≡ true
all_same n [] a = refl
all_same n (p ∷ ps) a =
    let f : fits p.map ≡ true = grind arith in
    let b : all_sound n ps ≡ true = grind arith in
    ap (λ (v : Bool). v && all_follow identity ps) (same_composed p.map f) ∙ all_same n ps b

module _ (m : Meaning) (l : Lawful m) where
  -- one part is never crowded
  pub one_roomy : (x : Part) → length (shown m (x ∷ [])) ≤ max_placements
  one_roomy x = omega (arith, length-append (part_shown m x) [], part_few m l x)

  same_near : (p : ℕ) → 1 ≤ p → p ≤ m.pages → parts_follow m (whole p ∷ []) ≡ true
  same_near p a b =
      ap (λ (v : Bool). v && true)
      (ap (λ (b : Bool). all_follow identity (cond b (m.page p) [])) (in_range p m.pages a b) ∙ all_same m.leaves (m.page p) (l.placed p a b))

  -- each page below as it is
  pub same_exact : (show : ℕ → Parts) (n : ℕ) → n ≡ m.pages → ((p : ℕ) → 1 ≤ p → p ≤ m.pages → show p ≡ whole p ∷ []) → Exact show n m
  same_exact show n e s = near_exact show n m
      (λ p a b. subst (λ (xs : Parts). length (shown m xs) ≤ max_placements) (sym (s p a (omega arith))) (one_roomy (whole p)))
      (λ p a b. ap (parts_follow m) (s p a (omega arith)) ∙ same_near p a (omega arith))
