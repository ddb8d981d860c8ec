-- Layers worked out by hand.
use Rattle.std.specs.Prelude.{◌≡◌, ℕ, List, [], ◌∷◌, map, pos, neg_ℤ}
use Rattle.std.specs.List.{range_with_len}
use Rattle.pages.specs.Maps.{followed, shift}
use Rattle.pages.specs.Meaning.{Meaning}
use Rattle.pages.specs.declared.maps.Map.{Map}
use Rattle.layers.specs.Layering.{Parts, whole}
use Rattle.layers.specs.Laws.{range}
use Rattle.layers.specs.Padding.{pad_count, pad_shows}
use Rattle.layers.specs.Reducing.{reduce_map}
use Rattle.layers.specs.Selecting.{select_shows}
use Rattle.layers.specs.Turning.{turn_map}
use Rattle.layers.specs.declared.ranges.Range.{Range}

-- a leaf at (10, 20), turned once on a page of 612 by 792
abbrev pub turned : Map
turned = followed (shift (pos 10) (pos 20)) (turn_map 1 612 792)

-- then halved, and moved by (5, −3)
abbrev pub halved : Map
halved = followed (followed turned (reduce_map 1 2)) (shift (pos 5) (neg_ℤ (pos 3)))

-- (3, 1), a blank, (2, 2)
abbrev pub ranges : List Range
ranges = range 3 1 ∷ range 0 0 ∷ range 2 2 ∷ []

abbrev pub page : ℕ → Parts
page q = whole q ∷ []

abbrev pub blank : Parts
blank = []

pub record WorkedLayers : Type 0 where
  pub turn : turned ≡ record { turn = 1; num = 1; den = 1; x = pos 772; y = pos 10 }
  pub reduce : halved ≡ record { turn = 1; num = 1; den = 2; x = pos 782; y = pos 4 }
  pub select : (m : Meaning) → m.pages ≡ 3 → map (select_shows ranges m) (range_with_len 1 5) ≡ page 3 ∷ page 2 ∷ page 1 ∷ blank ∷ page 2 ∷ []
  pub pad : (m : Meaning) → m.pages ≡ 3 → (pad_count 4 m.pages ≡ 4) × (map (pad_shows m) (range_with_len 1 4) ≡ page 1 ∷ page 2 ∷ page 3 ∷ blank ∷ [])
