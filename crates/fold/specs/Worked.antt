-- Sheets worked out by hand.
use Rattle.std.specs.Prelude.{◌≡◌, ℕ, List, [], ◌∷◌, map, Some, Option}
use Rattle.std.specs.List.{range_with_len}
use Rattle.std.specs.Option.{option_map}
use Rattle.fold.specs.Folding.{last, read, stack, upright}
use Rattle.fold.specs.Walk.{laid}
use Rattle.fold.specs.Words.{Letters, columns_of, rows_of, scheme}
use Rattle.fold.specs.declared.sheets.Cell.{Cell}
use Rattle.fold.specs.declared.sheets.Mark.TheVariants.{Turned}
use Rattle.fold.specs.declared.sheets.Side.{Side}
use Rattle.fold.specs.declared.sheets.Side.TheVariants.{One, Two}

abbrev pub turned : ℕ → Cell
turned n = record { page = n; mark = Turned }

-- The positions of a side by rows from the top, from the left.
abbrev pub laid_rows : ℕ → ℕ → Side → Letters → List (List Cell)
laid_rows k s side w = map (λ i. map (λ j. laid w k s side i j) (range_with_len 1 (columns_of w))) (range_with_len 1 (rows_of w))

-- A side of sheet s of a signature of k sheets, by a scheme.
abbrev pub sheet : ℕ → ℕ → ℕ → Side → Option (List (List Cell))
sheet n k s side = option_map (laid_rows k s side) (scheme n)

-- What a signature of k sheets, by a scheme, folds into.
abbrev pub book : ℕ → ℕ → Option (List Cell)
book n k = option_map (λ w. read (last w (stack w k (laid w k)))) (scheme n)

abbrev pub WorkedSheets : Type 0
WorkedSheets =
    (sheet 1 1 1 One ≡ Some ((upright 4 ∷ upright 1 ∷ []) ∷ []))
    × (sheet 1 1 1 Two ≡ Some ((upright 2 ∷ upright 3 ∷ []) ∷ []))
    × (sheet 1 2 1 One ≡ Some ((upright 8 ∷ upright 1 ∷ []) ∷ []))
    × (sheet 1 2 1 Two ≡ Some ((upright 2 ∷ upright 7 ∷ []) ∷ []))
    × (sheet 1 2 2 One ≡ Some ((upright 6 ∷ upright 3 ∷ []) ∷ []))
    × (sheet 1 2 2 Two ≡ Some ((upright 4 ∷ upright 5 ∷ []) ∷ []))
    × (sheet 2 1 1 One ≡ Some ((turned 5 ∷ turned 4 ∷ []) ∷ (upright 8 ∷ upright 1 ∷ []) ∷ []))
    × (sheet 2 1 1 Two ≡ Some ((turned 3 ∷ turned 6 ∷ []) ∷ (upright 2 ∷ upright 7 ∷ []) ∷ []))
    × (book 2 1 ≡ Some (map upright (1 ∷ 2 ∷ 3 ∷ 4 ∷ 5 ∷ 6 ∷ 7 ∷ 8 ∷ [])))
