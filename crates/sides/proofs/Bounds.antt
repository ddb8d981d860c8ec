-- No text of a position is longer than its bound.
use Rattle.std.proofs.Common.{◌≡◌, ℕ, ◌*◌, ◌^◌, ◌<◌, ◌≤◌, Bool, true, false, cond, refl, List, [], ◌∷◌, length, ℤ, pos, negsuc, neg_ℤ, ◌≤ℤ◌, arith, length-append, w64, SFits}
use Rattle.std.proofs.lemmas.Int.{ints}
use Rattle.pages.specs.Limits.{max_vector}
use Rattle.pages.specs.Maps.{near}
use Rattle.pages.proofs.Scaling.{fit}
use Rattle.pages.specs.Meaning.{Lawful, Meaning, all_sound, has, sound}
use Rattle.pages.specs.declared.maps.Placement.{Placement}
use Rattle.layers.specs.Lawful.{all_sound-moved}
use Rattle.layers.specs.Layering.{part_shown, placed}
use Rattle.layers.specs.declared.parts.Part.{Part}
use Rattle.layers.proofs.Showing.{part_few}
use Rattle.sides.specs.Texts.{block_of, blocks_of, ink_of, max_block, max_position, part_text}
use Rattle.sides.proofs.Leaves.{ink_short}
use Rattle.sides.proofs.Placing.{length-block, placing_short}

near_fits : (v : ℤ) → near v ≡ true → SFits w64 v
near_fits (pos k) h = let a : pos k ≤ℤ pos max_vector = grind (arith, ints) in record { sfits = omega (arith, ints) }
near_fits (negsuc k) h = let a : neg_ℤ (pos max_vector) ≤ℤ negsuc k = grind (arith, ints) in record { sfits = omega (arith, ints) }

module _ (m : Meaning) (l : Lawful m) where
  block_short : (p : Placement) → sound m.leaves p ≡ true → length (block_of m p) ≤ max_block
  block_short p h =
      let t = p.map in
      let f = fit t (grind arith) in
      let d : t.den < 2 ^ 64 = omega (arith, f.small) in
      let q : 90 * t.turn < 2 ^ 64 = omega (arith, f.quarter) in
      let n : t.num < 2 ^ 64 = omega (arith, f.ratio, f.small) in
      let s = placing_short t (near_fits t.x f.near_x) (near_fits t.y f.near_y) d q n in
      omega (arith, length-block t (ink_of m p.leaf), ink_short m p.leaf l, s)

  blocks_short : (ps : List Placement) → all_sound m.leaves ps ≡ true → length (blocks_of m ps) ≤ max_block * length ps
  blocks_short [] h = omega arith
  blocks_short (p ∷ ps) h =
      let a : sound m.leaves p ≡ true = grind arith in
      let b : all_sound m.leaves ps ≡ true = grind arith in
      omega (arith, length-append (block_of m p) (blocks_of m ps), block_short p a, blocks_short ps b)

  placed_sound : (b : Bool) (q : ℕ) → b ≡ has m q → all_sound m.leaves (cond b (m.page q) []) ≡ true
  placed_sound true q e = l.placed q (grind arith) (grind arith)
  placed_sound false q e = refl

  pub position_short : (x : Part) → length (part_text m x) ≤ max_position
  position_short x =
      let f = part_few m l x in
      let s = all_sound-moved m.leaves x.map (placed m x.page) (placed_sound (has m x.page) x.page refl) in
      omega (arith, blocks_short (part_shown m x) s)
