-- What signatures do with the pages below.
use Rattle.std.specs.Prelude.{◌≡◌, ℕ, ◌+◌, ◌-◌, ◌*◌, ◌%◌, ◌≤◌, cond, Some, ◌==◌}
use Rattle.std.specs.List.{slice_get}
use Rattle.fold.specs.Folding.{Folds, page_count}
use Rattle.fold.specs.Walk.{Filling}
use Rattle.fold.specs.Words.{Letters, columns_of, rows_of}
use Rattle.fold.specs.Worked.{WorkedSheets}
use Rattle.fold.specs.declared.sheets.Cell.{Cell}
use Rattle.fold.specs.declared.sheets.Mark.{Mark}
use Rattle.fold.specs.declared.sheets.Mark.TheVariants.{Upright, Turned}
use Rattle.fold.specs.declared.sheets.Side.{Side}
use Rattle.fold.specs.declared.sheets.Side.TheVariants.{One, Two}
use Rattle.pages.specs.declared.maps.Map.{Map}
use Rattle.pages.specs.declared.maps.Size.{Size}
use Rattle.layers.specs.Worked.{WorkedLayers}
use Rattle.layers.specs.declared.parts.Part.{Part}
use Rattle.signature.specs.Imposing.{position, positions, sides_of}

-- the part of a side that is position (i, j): by rows from the top, from the left
abbrev pub ByRows : Type 0
ByRows = (u : Letters) (k : ℕ) (z : Size) (p i j : ℕ) → 1 ≤ i → i ≤ rows_of u → 1 ≤ j → j ≤ columns_of u
    → slice_get (positions u k z p) ((i - 1) * columns_of u + (j - 1)) ≡ Some (position u k z p i j)

-- ---- nothing is lost, and nothing is printed twice

-- a position of a side where page q stands
pub record Stands (u : Letters) (k pages : ℕ) (z : Size) (q : ℕ) : Type 0 where
  pub side : ℕ
  pub row : ℕ
  pub column : ℕ
  pub side_is : (1 ≤ side) × (side ≤ sides_of u k pages)
  pub row_is : (1 ≤ row) × (row ≤ rows_of u)
  pub column_is : (1 ≤ column) × (column ≤ columns_of u)
  pub shows : (position u k z side row column).page ≡ q

abbrev pub SamePosition : {u : Letters} {k pages : ℕ} {z : Size} {q : ℕ} → Stands u k pages z q → Stands u k pages z q → Type 0
SamePosition a b = (a.side ≡ b.side) × (a.row ≡ b.row) × (a.column ≡ b.column)

-- every page below stands at one position of one side, and at no other
pub record EachPageOnce : Type 0 where
  pub somewhere : (u : Letters) (k pages : ℕ) (z : Size) → 1 ≤ k → pages % page_count u k ≡ 0 → (q : ℕ) → 1 ≤ q → q ≤ pages → Stands u k pages z q
  pub nowhere_else : (u : Letters) (k pages : ℕ) (z : Size) → 1 ≤ k → (q : ℕ) (a b : Stands u k pages z q) → SamePosition a b

-- ---- every signature folds into its pages

-- a side of sheet s of the signature after g others
abbrev pub side_number : ℕ → ℕ → ℕ → Side → ℕ
side_number k g s One = 2 * (g * k + (s - 1)) + 1
side_number k g s Two = 2 * (g * k + (s - 1)) + 2

-- how a map brings a page to stand
abbrev pub mark_of : Map → Mark
mark_of t = cond (t.turn == 2) Turned Upright

abbrev pub cell_of : Part → Cell
cell_of x = record { page = x.page; mark = mark_of x.map }

-- what the layer lays on the sheets of the signature after g others
abbrev pub laid_on : Letters → ℕ → Size → ℕ → Filling
laid_on u k z g s side i j = cell_of (position u k z (side_number k g s side) i j)

-- stacked and folded, they read the signature's own pages in rising order, upright
abbrev pub SignaturesFold : Type 0
SignaturesFold = (u : Letters) (k : ℕ) (z : Size) (g : ℕ) → Folds u k (λ n. g * page_count u k + n) (laid_on u k z g)

-- ---- sheets and layers worked out by hand

pub record Worked : Type 0 where
  pub sheets : WorkedSheets
  pub layers : WorkedLayers
