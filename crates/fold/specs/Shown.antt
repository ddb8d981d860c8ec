-- What a side of a sheet shows, position by position.
use Rattle.std.specs.Prelude.{ℕ, ◌+◌, ◌-◌, ◌/◌, ◌%◌, cond, List, [], map}
use Rattle.std.specs.List.{range_with_len}
use Rattle.fold.specs.Signatures.{letters_of}
use Rattle.fold.specs.Walk.{laid, from_1_to}
use Rattle.fold.specs.Words.{Letters, cells, columns_of}
use Rattle.fold.specs.declared.sheets.Cell.{Cell}
use Rattle.fold.specs.declared.sheets.Position.{Position}
use Rattle.fold.specs.declared.sheets.Side.{Side}
use Rattle.fold.specs.declared.shown.Shown.{Shown}
use Rattle.fold.specs.declared.signature.Signature.{Signature}

-- The position at an index of a side, by rows from the top, from the left.
abbrev pub spot : Letters → ℕ → Side → ℕ → Position
spot w sheet side x = record { sheet = sheet; side = side; row = x / columns_of w + 1; column = x % columns_of w + 1 }

-- The position with what it shows.
abbrev pub shown_at : Letters → ℕ → ℕ → Side → ℕ → Position × Cell
shown_at w k sheet side x = (spot w sheet side x, laid w k sheet side (x / columns_of w + 1) (x % columns_of w + 1))

-- All positions of a side from an index on; none where there is no such sheet.
abbrev pub shown_from : Signature → ℕ → Side → ℕ → List (Position × Cell)
shown_from s sheet side x =
    cond (from_1_to s.sheets sheet) (map (shown_at (letters_of s) s.sheets sheet side) (range_with_len x (cells (letters_of s) - x))) []

-- What an iterator has still to give.
abbrev pub to_show : Shown → List (Position × Cell)
to_show i = shown_from i.signature i.sheet i.side i.index
