-- The walk of a cell through the letters of a word, and the page and mark that a position shows.
use Rattle.std.specs.Prelude.{ℕ, ◌+◌, ◌-◌, ◌*◌, ◌/◌, ◌%◌, ◌^◌, ◌≤◌, Bool, cond, ◌&&◌, [], ◌∷◌, Some, None, Option, ◌==◌, nat_le}
use Rattle.fold.specs.Words.{Letters, columns_of, rows_of}
use Rattle.fold.specs.declared.letters.Letter.{Letter}
use Rattle.fold.specs.declared.letters.Letter.TheVariants.{W, N}
use Rattle.fold.specs.declared.sheets.Cell.{Cell}
use Rattle.fold.specs.declared.sheets.Mark.TheVariants.{Upright, Turned}
use Rattle.fold.specs.declared.sheets.Position.{Position}
use Rattle.fold.specs.declared.sheets.Side.{Side}
use Rattle.fold.specs.declared.sheets.Side.TheVariants.{One, Two}
use Rattle.fold.specs.declared.walk.CellState.{CellState}

-- One letter. A cell in the first half of the columns left (W) or of the rows left (N) is turned over: it moves to
-- its mirror place in the other half, and its depth counts from the pile's other end. A cell in the second half stays,
-- below the pile that comes to lie on it. Either way the pile is then twice as high.
abbrev pub step : Letter → CellState → CellState
step W p = cond (nat_le p.column (p.columns / 2))
    (record {
      rows = p.rows;
      columns = p.columns / 2;
      row = p.row;
      column = p.columns / 2 + 1 - p.column;
      depth = p.height + 1 - p.depth;
      height = p.height * 2;
      turns = p.turns + 1;
      tumbles = p.tumbles;
    })
    (record {
      rows = p.rows;
      columns = p.columns / 2;
      row = p.row;
      column = p.column - p.columns / 2;
      depth = p.depth + p.height;
      height = p.height * 2;
      turns = p.turns;
      tumbles = p.tumbles;
    })
step N p = cond (nat_le p.row (p.rows / 2))
    (record {
      rows = p.rows / 2;
      columns = p.columns;
      row = p.rows / 2 + 1 - p.row;
      column = p.column;
      depth = p.height + 1 - p.depth;
      height = p.height * 2;
      turns = p.turns + 1;
      tumbles = p.tumbles + 1;
    })
    (record {
      rows = p.rows / 2;
      columns = p.columns;
      row = p.row - p.rows / 2;
      column = p.column;
      depth = p.depth + p.height;
      height = p.height * 2;
      turns = p.turns;
      tumbles = p.tumbles;
    })

abbrev pub walk : Letters → CellState → CellState
walk [] p = p
walk (l ∷ w) p = walk w (step l p)

-- The cell (i, j) at depth a of piles of so many leaves, before the first letter.
abbrev pub begin : Letters → ℕ → ℕ → ℕ → ℕ → CellState
begin w height i j a = record { rows = rows_of w; columns = columns_of w; row = i; column = j; depth = a; height = height; turns = 0; tumbles = 0 }

-- The cell (i, j) of sheet s of k: sheet 1 lies lowest.
abbrev pub start : Letters → ℕ → ℕ → ℕ → ℕ → CellState
start w k s i j = begin w k i j (k + 1 - s)

abbrev pub odd : ℕ → Bool
odd n = n % 2 == 1

-- What a side shows of a cell that the walk has brought to its end: of leaf a, page 2a − 1 or 2a.
abbrev pub shows : Side → CellState → Cell
shows Two p = record { page = cond (odd p.turns) (2 * p.depth) (2 * p.depth - 1); mark = cond (odd p.tumbles) Turned Upright }
shows One p = record { page = cond (odd p.turns) (2 * p.depth - 1) (2 * p.depth); mark = cond (odd p.tumbles) Turned Upright }

-- The column of the cell that is seen at column j of a side: side one is seen from the other face.
abbrev pub across : Letters → Side → ℕ → ℕ
across w One j = columns_of w + 1 - j
across w Two j = j

-- A filling: a page and a mark for each sheet, side, row and column.
abbrev pub Filling : Type 0
Filling = ℕ → Side → ℕ → ℕ → Cell

-- The filling of a signature: what the walk says.
abbrev pub laid : Letters → ℕ → Filling
laid w k s side i j = shows side (walk w (start w k s i (across w side j)))

abbrev pub from_1_to : ℕ → ℕ → Bool
from_1_to n x = nat_le 1 x && nat_le x n

-- Whether a signature of k sheets has a position.
abbrev pub has : Letters → ℕ → Position → Bool
has w k p = from_1_to k p.sheet && (from_1_to (rows_of w) p.row && from_1_to (columns_of w) p.column)

-- What a position shows.
abbrev pub cell_at : Letters → ℕ → Position → Option Cell
cell_at w k p = cond (has w k p) (Some (laid w k p.sheet p.side p.row p.column)) None

-- The numbers of the walk keep to the program's, with n letters to come.
abbrev pub WithRoom : ℕ → CellState → Type 0
WithRoom n p = (1 ≤ p.depth) × (p.depth ≤ p.height) × (p.height * 2 ^ n ≤ 256) × (p.turns + n ≤ 256) × (p.tumbles + n ≤ 256)

abbrev pub Small : CellState → Type 0
Small p = (p.depth ≤ p.height) × (p.height ≤ 256) × (p.turns ≤ 256) × (p.tumbles ≤ 256)
