-- Where nothing is crowded and no map leaves its bounds, a layer shows exactly what its rule says.
use Rattle.std.proofs.Common.{◌≡◌, ℕ, ◌≤◌, Bool, true, false, cond, ◌&&◌, List, [], ◌∷◌, ◌++◌, map, length, is_some, Some, None, unwrap_or, refl, ap, ◌∙◌, subst, arith}
use Rattle.std.proofs.lemmas.List.{take_all}
use Rattle.std.proofs.lemmas.Bool.{and_parts}
use Rattle.pages.specs.Limits.{max_placements}
use Rattle.pages.specs.Maps.{fits, followed, composed}
use Rattle.pages.specs.Meaning.{Meaning}
use Rattle.pages.specs.declared.maps.Map.{Map}
use Rattle.pages.specs.declared.maps.Placement.{Placement}
use Rattle.layers.specs.Layering.{Parts, moved, placed, shown, all_follow, part_follows, parts_follow, Near, Roomy, followed_by, part_exactly, exactly, Exact}

chosen : (b : Bool) (f t : Map) → is_some (cond b (Some f) None) ≡ true → unwrap_or (cond b (Some f) None) t ≡ f
chosen true f t h = refl
chosen false f t h = let z : ◌≡◌ {A = Bool} false true = h in absurd (grind arith)

all-exact : (t : Map) (ps : List Placement) → all_follow t ps ≡ true → map (moved t) ps ≡ map (followed_by t) ps
all-exact t [] h = refl
all-exact t (p ∷ ps) h =
    let a : is_some (composed p.map t) ≡ true = grind arith in
    let b : all_follow t ps ≡ true = grind arith in
    let e = chosen (fits p.map && fits t && fits (followed p.map t)) (followed p.map t) p.map a in
    ap (λ (x : Map). record { leaf = p.leaf; map = x } ∷ map (moved t) ps) e ∙ ap (λ (l : List Placement). followed_by t p ∷ l) (all-exact t ps b)

parts_exact : (m : Meaning) (xs : Parts) → parts_follow m xs ≡ true → shown m xs ≡ exactly m xs
parts_exact m [] h = refl
parts_exact m (x ∷ xs) h =
    let a = (and_parts (part_follows m x) (parts_follow m xs) h).0 in
    let b = (and_parts (part_follows m x) (parts_follow m xs) h).1 in
    ap (λ (l : List Placement). l ++ shown m xs) (all-exact x.map (placed m x.page) a)
    ∙ ap (λ (l : List Placement). part_exactly m x ++ l) (parts_exact m xs b)

pub near_exact : (show : ℕ → Parts) (n : ℕ) (m : Meaning) → Roomy show n m → Near show n m → Exact show n m
near_exact show n m r h = record {
  few = λ p a b. subst (λ (l : List Placement). length l ≤ max_placements) (parts_exact m (show p) (h p a b)) (r p a b);
  near = h;
  all = λ p a b. take_all max_placements (shown m (show p)) (r p a b) ∙ parts_exact m (show p) (h p a b);
}
