-- What the specimen means.
use Rattle.std.specs.Prelude.{ℕ, cond, List, [], ◌∷◌, ◌++◌, codes, ◌==◌}
use Rattle.pages.specs.Maps.{identity}
use Rattle.pages.specs.Meaning.{Meaning}

-- the ink of its one leaf: a frame along the edges of the page; the preamble has none
abbrev pub frame : List ℕ
frame = codes "0 0 612 792 rectstroke" ++ 10 ∷ []

abbrev pub ink_of : ℕ → List ℕ
ink_of l = cond (l == 0) [] frame

abbrev pub specimen : Meaning
specimen = record { width = 612; height = 792; leaves = 1; ink = ink_of; pages = 1; page = λ p. record { leaf = 1; map = identity } ∷ []; depth = 1 }
