-- What the text of a side shows.
use Rattle.std.specs.Prelude.{◌≡◌, ℕ, ◌≤◌}
use Rattle.fold.specs.Words.{Letters}
use Rattle.pages.specs.Meaning.{Lawful, Meaning}
use Rattle.layers.specs.Layering.{Below, Exact, layered}
use Rattle.layers.specs.declared.extent.Extent.{Extent}
use Rattle.signature.specs.Imposing.{side_parts, sides_of}
use Rattle.sides.specs.Texts.{blocks_of, parts_text, side_of_blocks, side_text}

-- the order of signatures of k sheets, folded by the word u, was accepted over m, and x is the extent of its sides
pub record Accepted (u : Letters) (k : ℕ) (m : Meaning) (x : Extent) : Type 0 where
  pub sides : x.pages ≡ sides_of u k m.pages
  pub exact : Exact (side_parts u k m) x.pages m
  pub below : Below (side_parts u k m) x.pages m

-- side s of such a book
pub record AsShown (u : Letters) (k : ℕ) (m : Meaning) (x : Extent) (s : ℕ) : Type 0 where
  -- what is printed for the parts of the layer's page s is the text of the side: position by position, each placement
  -- under its own map followed by the position's
  pub positions : parts_text m s (side_parts u k m s) ≡ side_text u k m s
  -- between the Page line and the last showpage there is one block for each placement of the layer's page s, in order,
  -- under the map that the layer gives it, and nothing else
  pub placements : side_text u k m s ≡ side_of_blocks s (blocks_of m ((layered (side_parts u k m) x m).page s))

abbrev pub SidesAsShown : Type 0
SidesAsShown = (u : Letters) (k : ℕ) (m : Meaning) → Lawful m → (x : Extent) → Accepted u k m x → (s : ℕ) → 1 ≤ s → s ≤ x.pages → AsShown u k m x s
