-- The records of the sides that signatures of k sheets make, folded by the word u.
use Rattle.std.specs.Prelude.{◌≡◌, ℕ, zero, suc, ◌+◌, ◌/◌, ◌%◌, Bool, cond, ◌&&◌, List, [], ◌++◌, map, length, Some, None, Option, nat_le, nat_lt}
use Rattle.std.specs.List.{range_with_len}
use Rattle.fold.specs.Sheets.{mark_number, side_number, side_of}
use Rattle.fold.specs.Walk.{laid, from_1_to}
use Rattle.fold.specs.Words.{Letters, cells, columns_of, rows_of}
use Rattle.pages.specs.Limits.{max_pages}
use Rattle.pages.specs.Splice.{splice}
use Rattle.pages.specs.declared.maps.Size.{Size}
use Rattle.signature.specs.Imposing.{pages_before, position, sheet_of, signatures_before}
use Rattle.signature.specs.Laws.{mark_of}
use Rattle.plan.specs.declared.record.Record.{Record}

-- the record of position (i, j) of side p
abbrev pub record_of : Letters → ℕ → ℕ → ℕ → ℕ → Record
record_of u k p i j = record {
  signature = signatures_before k p + 1;
  sheet = sheet_of k p;
  side = side_number (side_of p);
  row = i;
  column = j;
  page = pages_before u k p + (laid u k (sheet_of k p) (side_of p) i j).page;
  mark = mark_number (laid u k (sheet_of k p) (side_of p) i j).mark;
}

-- the records of side p by rows from the top, from the left
abbrev pub record_at : Letters → ℕ → ℕ → ℕ → Record
record_at u k p x = record_of u k p (x / columns_of u + 1) (x % columns_of u + 1)

abbrev pub records_of : Letters → ℕ → ℕ → List Record
records_of u k p = map (record_at u k p) (range_with_len 0 (cells u))

-- the records of sides 1 to n
abbrev pub plan_to : Letters → ℕ → ℕ → List Record
plan_to u k zero = []
plan_to u k (suc n) = plan_to u k n ++ records_of u k (suc n)

-- ---- what the functions answer: no book has more than so many sides

abbrev pub is_side : ℕ → Bool
is_side p = from_1_to max_pages p

-- the record by row and column
abbrev pub position_record : Letters → ℕ → ℕ → ℕ → ℕ → Option Record
position_record u k p i j =
    cond (is_side p && (from_1_to (rows_of u) i && from_1_to (columns_of u) j)) (Some (record_of u k p i j)) None

-- the record by its index
abbrev pub record_in : Letters → ℕ → ℕ → ℕ → Option Record
record_in u k p x = cond (is_side p && nat_lt x (cells u)) (Some (record_at u k p x)) None

-- whether there is room for the records of side p from place `at` of a list of n records
abbrev pub fits_at : Letters → ℕ → ℕ → ℕ → Bool
fits_at u p n at = is_side p && nat_le (at + cells u) n

-- the place after them
abbrev pub place_after : Letters → ℕ → ℕ → ℕ → Option ℕ
place_after u p n at = cond (fits_at u p n at) (Some (at + cells u)) None

-- what the list then holds
abbrev pub written : Letters → ℕ → ℕ → List Record → ℕ → List Record
written u k p plan at = cond (fits_at u p (length plan) at) (splice plan at (records_of u k p)) plan

-- ---- a record names what the Signature layer lays on its position, whatever the size of the pages

pub record NamesLaid (u : Letters) (k : ℕ) (z : Size) (p i j : ℕ) : Type 0 where
  pub page : (record_of u k p i j).page ≡ (position u k z p i j).page
  pub mark : (record_of u k p i j).mark ≡ mark_number (mark_of (position u k z p i j).map)

abbrev pub RecordsName : Type 0
RecordsName = (u : Letters) (k : ℕ) (z : Size) (p i j : ℕ) → NamesLaid u k z p i j
