-- The text of a side shows the placements of its positions.
use Rattle.std.proofs.Common.{◌≡◌, ℕ, ◌≤◌, true, leb, List, [], ◌∷◌, ◌++◌, map, length, sym, refl, ap, ◌∙◌, arith, length-append}
use lib.ListN.{length-map}
use Rattle.std.proofs.lemmas.List.{take_all}
use Rattle.std.proofs.lemmas.Bool.{cond-true, le-leb}
use Rattle.std.specs.List.{flat_map}
use Rattle.pages.specs.Limits.{max_placements}
use Rattle.pages.specs.Maps.{followed}
use Rattle.pages.specs.Meaning.{Lawful, Meaning, all_sound, has, size_of}
use Rattle.pages.specs.declared.maps.Map.{Map}
use Rattle.pages.specs.declared.maps.Placement.{Placement}
use Rattle.layers.specs.Layering.{Exact, Parts, all_below, exactly, followed_by, moved, part_exactly, part_shown, placed, shown}
use Rattle.layers.specs.declared.parts.Part.{Part}
use Rattle.signature.specs.Imposing.{positions, side_parts, sides_of}
use Rattle.text.proofs.Joins.{joined-append}
use Rattle.sides.specs.Laws.{SidesAsShown}
use Rattle.sides.specs.Texts.{block, block_of, blocks_of, ink_of, part_text, position_text, side_of_blocks}

-- ---- the blocks of all parts are those of each, one after another

blocks_shown : (m : Meaning) (xs : Parts) → blocks_of m (shown m xs) ≡ flat_map (part_text m) xs
blocks_shown m [] = refl
blocks_shown m (x ∷ xs) = joined-append (block_of m) (part_shown m x) (shown m xs) ∙ ap (λ (z : List ℕ). blocks_of m (part_shown m x) ++ z) (blocks_shown m xs)

blocks_exactly : (m : Meaning) (xs : Parts) → blocks_of m (exactly m xs) ≡ flat_map (λ x. blocks_of m (part_exactly m x)) xs
blocks_exactly m [] = refl
blocks_exactly m (x ∷ xs) = joined-append (block_of m) (part_exactly m x) (exactly m xs) ∙ ap (λ (z : List ℕ). blocks_of m (part_exactly m x) ++ z) (blocks_exactly m xs)

-- ---- a layer that is exact cuts nothing

shown-length : (m : Meaning) (xs : Parts) → length (shown m xs) ≡ length (exactly m xs)
shown-length m [] = refl
shown-length m (x ∷ xs) =
    let a = length-map (placed m x.page) (moved x.map) in
    let b = length-map (placed m x.page) (followed_by x.map) in
    let c = shown-length m xs in
    omega (arith, length-append (part_shown m x) (shown m xs), length-append (part_exactly m x) (exactly m xs))

shown_exact : (show : ℕ → Parts) (n : ℕ) (m : Meaning) → Exact show n m → (s : ℕ) → 1 ≤ s → s ≤ n → shown m (show s) ≡ exactly m (show s)
shown_exact show n m e s a b = sym (take_all max_placements (shown m (show s)) (omega (arith, shown-length m (show s), e.few s a b))) ∙ e.all s a b

-- ---- the placements of a page that there is have their inks

ink_there : (m : Meaning) (l : ℕ) → leb l m.leaves ≡ true → ink_of m l ≡ m.ink l
ink_there m l h = cond-true (leb l m.leaves) (m.ink l) [] h

placements_shown : (m : Meaning) (t : Map) (ps : List Placement) → all_sound m.leaves ps ≡ true
    → blocks_of m (map (followed_by t) ps) ≡ flat_map (λ p. block (followed p.map t) (m.ink p.leaf)) ps
placements_shown m t [] h = refl
placements_shown m t (p ∷ ps) h =
    let a : leb p.leaf m.leaves ≡ true = grind arith in
    let b : all_sound m.leaves ps ≡ true = grind arith in
    ap (λ (ink : List ℕ). block (followed p.map t) ink ++ blocks_of m (map (followed_by t) ps)) (ink_there m p.leaf a)
    ∙ ap (λ (z : List ℕ). block (followed p.map t) (m.ink p.leaf) ++ z) (placements_shown m t ps b)

module _ (m : Meaning) (l : Lawful m) where
  part_shown_lem : (x : Part) → has m x.page ≡ true → blocks_of m (part_exactly m x) ≡ position_text m x
  part_shown_lem x h =
      let a : 1 ≤ x.page = grind arith in
      let b : x.page ≤ m.pages = grind arith in
      ap (λ ps. blocks_of m (map (followed_by x.map) ps)) (cond-true (has m x.page) (m.page x.page) [] h)
      ∙ placements_shown m x.map (m.page x.page) (l.placed x.page a b)

  parts_shown : (xs : Parts) → all_below m xs ≡ true → flat_map (λ x. blocks_of m (part_exactly m x)) xs ≡ flat_map (position_text m) xs
  parts_shown [] h = refl
  parts_shown (x ∷ xs) h =
      let a : has m x.page ≡ true = grind arith in
      let b : all_below m xs ≡ true = grind arith in
      ap (λ (z : List ℕ). z ++ flat_map (λ x. blocks_of m (part_exactly m x)) xs) (part_shown_lem x a)
      ∙ ap (λ (z : List ℕ). position_text m x ++ z) (parts_shown xs b)

-- ---- a side

pub sides_as_shown : SidesAsShown
sides_as_shown u k m l x acc s a b =
    let show = side_parts u k m in
    let e = shown_exact show x.pages m acc.exact s a b in
    let p : show s ≡ positions u k (size_of m) s = cond-true (leb s (sides_of u k m.pages)) (positions u k (size_of m) s) [] (le-leb s (sides_of u k m.pages) (omega (arith, acc.sides))) in
    let blocks : blocks_of m (exactly m (show s)) ≡ flat_map (position_text m) (positions u k (size_of m) s) =
    blocks_exactly m (show s) ∙ parts_shown m l (show s) (acc.below s a b) ∙ ap (flat_map (position_text m)) p in
    record {
      positions = ap (side_of_blocks s) (sym (blocks_shown m (show s)) ∙ ap (blocks_of m) e ∙ blocks);
      placements = ap (side_of_blocks s) (sym (ap (blocks_of m) (acc.exact.all s a b) ∙ blocks));
    }
