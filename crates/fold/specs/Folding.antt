-- Folding a stack of sheets by the letters of a word, for any filling of the positions; and what the walk is worth.
use Rattle.std.specs.Prelude.{◌≡◌, ℕ, zero, suc, ◌+◌, ◌-◌, ◌*◌, ◌/◌, ◌^◌, ◌≤◌, List, [], ◌∷◌, ◌++◌, map, reverse, length, Some}
use Rattle.std.specs.List.{slice_get, range_with_len}
use Rattle.fold.specs.Words.{Letters, columns_of, rows_of}
use Rattle.fold.specs.Walk.{Filling, begin, laid, walk}
use Rattle.fold.specs.declared.letters.Letter.{Letter}
use Rattle.fold.specs.declared.letters.Letter.TheVariants.{W, N}
use Rattle.fold.specs.declared.sheets.Cell.{Cell}
use Rattle.fold.specs.declared.sheets.Mark.{Mark}
use Rattle.fold.specs.declared.sheets.Mark.TheVariants.{Upright, Turned}
use Rattle.fold.specs.declared.sheets.Side.TheVariants.{One, Two}

-- A leaf of paper: what its upper and its lower face show.
pub record Leaf : Type 0 where
  pub upper : Cell
  pub lower : Cell

-- The faces of a leaf exchanged.
abbrev pub exchanged : Leaf → Leaf
exchanged l = record { upper = l.lower; lower = l.upper }

-- The marks of a leaf reversed.
abbrev pub opposite : Mark → Mark
opposite Upright = Turned
opposite Turned = Upright

abbrev pub head_down : Cell → Cell
head_down c = record { page = c.page; mark = opposite c.mark }

abbrev pub reversed : Leaf → Leaf
reversed l = record { upper = head_down l.upper; lower = head_down l.lower }

-- A leaf turned over by a fold: by N its marks are reversed too.
abbrev pub over : Letter → Leaf → Leaf
over W l = exchanged l
over N l = reversed (exchanged l)

-- A grid of cells, each with a pile of leaves, top first.
pub record Grid : Type 0 where
  pub height : ℕ
  pub width : ℕ
  pub pile : ℕ → ℕ → List Leaf

-- One fold: the first half is turned over onto the second.
abbrev pub fold : Letter → Grid → Grid
fold W g = record {
  height = g.height;
  width = g.width / 2;
  pile = λ i j. reverse (map (over W) (g.pile i (g.width / 2 + 1 - j))) ++ g.pile i (g.width / 2 + j);
}
fold N g = record {
  height = g.height / 2;
  width = g.width;
  pile = λ i j. reverse (map (over N) (g.pile (g.height / 2 + 1 - i) j)) ++ g.pile (g.height / 2 + i) j;
}

abbrev pub folded : Letters → Grid → Grid
folded [] g = g
folded (l ∷ w) g = folded w (fold l g)

-- The last pile.
abbrev pub last : Letters → Grid → List Leaf
last w g = (folded w g).pile 1 1

-- A pile of the leaves of sheets 1 to k: sheet k is on top, sheet 1 lowest.
abbrev pub piled : ℕ → (ℕ → Leaf) → List Leaf
piled zero f = []
piled (suc s) f = f (suc s) ∷ piled s f

-- The stack that a filling of the positions makes: side one lies down.
abbrev pub stack : Letters → ℕ → Filling → Grid
stack w k f = record {
  height = rows_of w;
  width = columns_of w;
  pile = λ i j. piled k (λ s. record { upper = f s Two i j; lower = f s One i (columns_of w + 1 - j) });
}

-- A pile read from the top, upper face before lower.
abbrev pub read : List Leaf → List Cell
read [] = []
read (l ∷ p) = l.upper ∷ (l.lower ∷ read p)

abbrev pub upright : ℕ → Cell
upright n = record { page = n; mark = Upright }

-- The pages that a signature takes.
abbrev pub page_count : Letters → ℕ → ℕ
page_count w k = 2 * k * 2 ^ length w

-- The pages of a filling under other names: page n is called h n.
abbrev pub named : (ℕ → ℕ) → Filling → Filling
named h f s side i j = record { page = h (f s side i j).page; mark = (f s side i j).mark }

-- A filling folds into the pages h 1, h 2, h 3, .. all upright.
abbrev pub Folds : Letters → ℕ → (ℕ → ℕ) → Filling → Type 0
Folds w k h f = read (last w (stack w k f)) ≡ map (λ n. upright (h n)) (range_with_len 1 (page_count w k))

-- The filling of the walk folds so, for every word, number of sheets and names of the pages.
abbrev pub FoldsInOrder : Type 0
FoldsInOrder = (w : Letters) (k : ℕ) (h : ℕ → ℕ) → Folds w k h (named h (laid w k))

-- A grid of the rows and columns of a word, with so many leaves on each cell.
pub record Stacked (w : Letters) (leaves : ℕ) (g : Grid) : Type 0 where
  pub height_is : g.height ≡ rows_of w
  pub width_is : g.width ≡ columns_of w
  pub piles : (i j : ℕ) → 1 ≤ i → i ≤ rows_of w → 1 ≤ j → j ≤ columns_of w → length (g.pile i j) ≡ leaves

abbrev pub times : {A : Type 0} → ℕ → (A → A) → A → A
times zero f x = x
times (suc n) f x = f (times n f x)

-- A leaf turned over so many times, so many of them by N.
abbrev pub turned_over : ℕ → ℕ → Leaf → Leaf
turned_over turns tumbles x = times turns exchanged (times tumbles reversed x)

-- Whatever leaves lie on a grid: leaf x at depth a of the cell (i, j) comes to lie at the depth to which the walk brings
-- it, turned over as often as the walk says.
abbrev pub LeavesFollowTheWalk : Type 0
LeavesFollowTheWalk = (w : Letters) (leaves : ℕ) (g : Grid) → Stacked w leaves g
    → (i j a : ℕ) (x : Leaf) → 1 ≤ i → i ≤ rows_of w → 1 ≤ j → j ≤ columns_of w → 1 ≤ a
    → slice_get (g.pile i j) (a - 1) ≡ Some x
    → slice_get (last w g) ((walk w (begin w leaves i j a)).depth - 1)
    ≡ Some (turned_over (walk w (begin w leaves i j a)).turns (walk w (begin w leaves i j a)).tumbles x)
