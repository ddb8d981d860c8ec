-- The bounds that every map, source and ink keeps.
use Rattle.std.specs.Prelude.{ℕ}

-- quarter turns of a map
abbrev pub max_turn : ℕ
max_turn = 3

-- the numerator and the denominator of a map
abbrev pub max_ratio : ℕ
max_ratio = 1000000

-- each coordinate of a map's vector, either way
abbrev pub max_vector : ℕ
max_vector = 1000000000000

-- the width and the height of a page, in points
abbrev pub max_side : ℕ
max_side = 20000

abbrev pub max_leaves : ℕ
max_leaves = 4096

abbrev pub max_pages : ℕ
max_pages = 4096

-- placements on one page
abbrev pub max_placements : ℕ
max_placements = 64

-- bytes of an ink
abbrev pub max_ink : ℕ
max_ink = 16777216

abbrev pub max_depth : ℕ
max_depth = 255
