-- A plan as a filling of the sheets of a signature, and what it folds into.
use Rattle.std.specs.Prelude.{◌≡◌, ℕ, ◌+◌, ◌-◌, ◌*◌, ◌≤◌, Bool, cond, ◌&&◌, List, [], ◌∷◌, take, Some, None, Option, ◌==◌}
use Rattle.fold.specs.Folding.{Folds, page_count}
use Rattle.fold.specs.Sheets.{side_number, mark_number}
use Rattle.fold.specs.Walk.{Filling}
use Rattle.fold.specs.Words.{Letters, cells}
use Rattle.fold.specs.declared.sheets.Cell.{Cell}
use Rattle.fold.specs.declared.sheets.Mark.{Mark}
use Rattle.fold.specs.declared.sheets.Mark.TheVariants.{Upright, Turned}
use Rattle.fold.specs.declared.sheets.Side.{Side}
use Rattle.plan.specs.Records.{plan_to}
use Rattle.plan.specs.declared.record.Record.{Record}

-- whether a record is that of a position of signature g
abbrev pub lies : ℕ → ℕ → Side → ℕ → ℕ → Record → Bool
lies g sheet side i j r =
    (r.signature == g) && (r.sheet == sheet && (r.side == side_number side && (r.row == i && r.column == j)))

-- the first record of a plan that passes a test
abbrev pub first : (Record → Bool) → List Record → Option Record
first test [] = None
first test (r ∷ rs) = cond (test r) (Some r) (first test rs)

-- the mark that a number stands for
abbrev pub mark_numbered : ℕ → Mark
mark_numbered n = cond (n == mark_number Turned) Turned Upright

-- what a record shows; where there is none, no page
abbrev pub cell_of : Option Record → Cell
cell_of None = record { page = 0; mark = Upright }
cell_of (Some r) = record { page = r.page; mark = mark_numbered r.mark }

-- the sheets of signature g as a plan fills them: each position shows what the first record of that position says
abbrev pub filled : List Record → ℕ → Filling
filled plan g sheet side i j = cell_of (first (lies g sheet side i j) plan)

-- a plan begins with the records of sides 1 to n
abbrev pub Planned : Letters → ℕ → ℕ → List Record → Type 0
Planned u k n plan = take (n * cells u) plan ≡ plan_to u k n

-- the sheets of signature g, stacked as a plan fills them and folded, read its own pages in rising order, all upright:
-- its page n is page n after those of the signatures before it
abbrev pub FoldsUp : Letters → ℕ → List Record → ℕ → Type 0
FoldsUp u k plan g = Folds u k (λ n. (g - 1) * page_count u k + n) (filled plan g)

-- of every plan that begins with the records of sides 1 to n, each signature all of whose sides are among them
abbrev pub PlansFold : Type 0
PlansFold = (u : Letters) (k n g : ℕ) (plan : List Record) → Planned u k n plan → 1 ≤ g → g * (2 * k) ≤ n → FoldsUp u k plan g
