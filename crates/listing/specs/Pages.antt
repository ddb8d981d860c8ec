-- Bytes parted by a separator: pages by form feeds, lines by line feeds.
use Rattle.std.specs.Prelude.{ℕ, cond, List, [], ◌∷◌, ◌==◌}

-- A byte more in front of the first part.
abbrev pub onto : ℕ → List (List ℕ) → List (List ℕ)
onto b [] = (b ∷ []) ∷ []
onto b (p ∷ ps) = (b ∷ p) ∷ ps

-- The parts between separators; an empty last part is none.
abbrev pub cut : ℕ → List ℕ → List (List ℕ)
cut s [] = []
cut s (b ∷ bs) = cond (b == s) ([] ∷ cut s bs) (onto b (cut s bs))
