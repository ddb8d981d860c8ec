-- Every layer over a lawful source is lawful: the law of `Source` cites it.
use Rattle.std.specs.Prelude.{◌≡◌, ℕ, zero, suc, Bool, true, false, cond, ◌&&◌, List, [], ◌∷◌, ◌++◌, map, take, Some, None, refl}
use Rattle.std.proofs.Common.{sym, ap, ◌∙◌, arith}
use Rattle.std.proofs.lemmas.List.{length-take}
use Rattle.std.specs.Option.{unwrap_or}
use Rattle.pages.specs.Limits.{max_placements}
use Rattle.pages.specs.Maps.{fits, followed, composed}
use Rattle.pages.specs.Meaning.{Meaning, Lawful, has, all_sound, sound}
use Rattle.pages.specs.declared.maps.Map.{Map}
use Rattle.pages.specs.declared.maps.Placement.{Placement}
use Rattle.layers.specs.Layering.{Parts, moved, part_shown, shown, layered}
use Rattle.layers.specs.declared.extent.Extent.{Extent}

-- ---- what is moved stays sound

fits_carried : (t u : Map) → fits t ≡ true → fits (unwrap_or (composed t u) t) ≡ true
fits_carried t u h = chosen (fits t && fits u) (fits (followed t u)) refl
  where
    chosen : (a b : Bool) → b ≡ fits (followed t u) → fits (unwrap_or (cond (a && b) (Some (followed t u)) None) t) ≡ true
    chosen true true e = sym e
    chosen true false e = h
    chosen false b e = h

sound_moved : (n : ℕ) (t : Map) (p : Placement) → sound n p ≡ true → sound n (moved t p) ≡ true
sound_moved n t p h = let f : fits p.map ≡ true = grind arith in let k = fits_carried p.map t f in grind arith

pub all_sound-moved : (n : ℕ) (t : Map) (ps : List Placement) → all_sound n ps ≡ true → all_sound n (map (moved t) ps) ≡ true
all_sound-moved n t [] h = refl
all_sound-moved n t (p ∷ ps) h =
    let a : sound n p ≡ true = grind arith in
    let b : all_sound n ps ≡ true = grind arith in
    ap (λ (v : Bool). v && all_sound n (map (moved t) ps)) (sound_moved n t p a) ∙ all_sound-moved n t ps b

all_sound-append : (n : ℕ) (a b : List Placement) → all_sound n a ≡ true → all_sound n b ≡ true → all_sound n (a ++ b) ≡ true
all_sound-append n [] b h k = k
all_sound-append n (p ∷ a) b h k =
    let x : sound n p ≡ true = grind arith in
    let y : all_sound n a ≡ true = grind arith in
    ap (λ (v : Bool). v && all_sound n (a ++ b)) x ∙ all_sound-append n a b y k

all_sound-take : (n k : ℕ) (ps : List Placement) → all_sound n ps ≡ true → all_sound n (take k ps) ≡ true
all_sound-take n zero ps h = refl
all_sound-take n (suc k) [] h = refl
all_sound-take n (suc k) (p ∷ ps) h =
    let x : sound n p ≡ true = grind arith in
    let y : all_sound n ps ≡ true = grind arith in
    ap (λ (v : Bool). v && all_sound n (take k ps)) x ∙ all_sound-take n k ps y

module _ (m : Meaning) (l : Lawful m) where
  all : (b : Bool) (q : ℕ) (t : Map) → b ≡ has m q → all_sound m.leaves (map (moved t) (cond b (m.page q) [])) ≡ true
  all true q t e = all_sound-moved m.leaves t (m.page q) (l.placed q (grind arith) (grind arith))
  all false q t e = refl

  all_shown : (xs : Parts) → all_sound m.leaves (shown m xs) ≡ true
  all_shown [] = refl
  all_shown (x ∷ xs) = all_sound-append m.leaves (part_shown m x) (shown m xs) (all (has m x.page) x.page x.map refl) (all_shown xs)

  pub lawful_layered : (show : ℕ → Parts) (x : Extent) → Lawful (layered show x m)
  lawful_layered show x = record {
    wide = x.wide;
    high = x.high;
    leafy = l.leafy;
    paged = x.paged;
    deep = (let d = l.deep in omega arith, omega arith);
    inked = l.inked;
    formed = l.formed;
    laid = λ p _ _. omega (arith, length-take max_placements (shown m (show p)));
    placed = λ p _ _. all_sound-take m.leaves max_placements (shown m (show p)) (all_shown (show p));
  }
