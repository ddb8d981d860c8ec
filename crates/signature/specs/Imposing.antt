-- The Signature layer: each page is a side of a sheet, and each of its parts is a position on that side.
use Rattle.std.specs.Prelude.{◌≡◌, ℕ, ◌+◌, ◌-◌, ◌*◌, ◌/◌, ◌%◌, cond, ◌&&◌, [], map, pos, Some, None, Option, ◌==◌, nat_le}
use Rattle.std.specs.List.{range_with_len}
use Rattle.fold.specs.Folding.{page_count}
use Rattle.fold.specs.Signatures.{letters_of}
use Rattle.fold.specs.Sheets.{side_of}
use Rattle.fold.specs.Walk.{laid, from_1_to}
use Rattle.fold.specs.Words.{Letters, cells, columns_of, rows_of, scheme}
use Rattle.fold.specs.declared.sheets.Mark.{Mark}
use Rattle.fold.specs.declared.sheets.Mark.TheVariants.{Upright, Turned}
use Rattle.fold.specs.declared.sheets.Position.{Position}
use Rattle.fold.specs.declared.signature.Signature.{Signature}
use Rattle.pages.specs.Limits.{max_side}
use Rattle.pages.specs.Meaning.{Meaning, size_of}
use Rattle.pages.specs.declared.faults.Refusal.TheVariants.{BadOrder, Uneven, TooLarge}
use Rattle.pages.specs.declared.maps.Map.{Map}
use Rattle.pages.specs.declared.maps.Size.{Size}
use Rattle.layers.specs.Layering.{Parts, Below}
use Rattle.layers.specs.Orders.{objection}
use Rattle.layers.specs.declared.extent.Extent.{Extent}
use Rattle.layers.specs.declared.parts.Objection.{Objection}
use Rattle.layers.specs.declared.parts.Part.{Part}

-- the sheets that a signature may have
abbrev pub max_sheets : ℕ
max_sheets = 16

-- Sides count from 1: side one before side two, sheet by sheet, signature by signature of k sheets.

-- the sheets before that of side p
abbrev pub sheets_before : ℕ → ℕ
sheets_before p = (p - 1) / 2

-- the signatures before that of side p, and the pages below that they take
abbrev pub signatures_before : ℕ → ℕ → ℕ
signatures_before k p = sheets_before p / k

abbrev pub pages_before : Letters → ℕ → ℕ → ℕ
pages_before u k p = signatures_before k p * page_count u k

-- the sheet of side p in its signature, from 1
abbrev pub sheet_of : ℕ → ℕ → ℕ
sheet_of k p = sheets_before p % k + 1

-- where the position at an index of side p is, of so many columns: by rows from the top, from the left
abbrev pub spot_at : ℕ → ℕ → ℕ → ℕ → Position
spot_at columns k p x = record { sheet = sheet_of k p; side = side_of p; row = x / columns + 1; column = x % columns + 1 }

-- the map of the position (i, j) for pages of a size on so many rows: a turned page is turned by a half, in its place
abbrev pub position_map : Size → ℕ → ℕ → ℕ → Mark → Map
position_map z rows i j Upright = record { turn = 0; num = 1; den = 1; x = pos ((j - 1) * z.width); y = pos ((rows - i) * z.height) }
position_map z rows i j Turned = record { turn = 2; num = 1; den = 1; x = pos ((j - 1) * z.width + z.width); y = pos ((rows - i) * z.height + z.height) }

-- position (i, j) of side p: a page below, and its map
abbrev pub position : Letters → ℕ → Size → ℕ → ℕ → ℕ → Part
position u k z p i j = record {
  page = pages_before u k p + (laid u k (sheet_of k p) (side_of p) i j).page;
  map = position_map z (rows_of u) i j (laid u k (sheet_of k p) (side_of p) i j).mark;
}

-- the positions of a side by rows from the top, from the left
abbrev pub position_at : Letters → ℕ → Size → ℕ → ℕ → Part
position_at u k z p x = position u k z p (x / columns_of u + 1) (x % columns_of u + 1)

abbrev pub positions : Letters → ℕ → Size → ℕ → Parts
positions u k z p = map (position_at u k z p) (range_with_len 0 (cells u))

-- the sides of so many pages
abbrev pub sides_of : Letters → ℕ → ℕ → ℕ
sides_of u k pages = pages / page_count u k * (2 * k)

abbrev pub side_parts : Letters → ℕ → Meaning → ℕ → Parts
side_parts u k m p = cond (nat_le p (sides_of u k m.pages)) (positions u k (size_of m) p) []

-- before the first order there are no sides
abbrev pub impose_shows : Option Signature → Meaning → ℕ → Parts
impose_shows None m p = []
impose_shows (Some s) m p = side_parts (letters_of s) s.sheets m p

abbrev pub side_size : Letters → Size → Size
side_size u z = record { width = columns_of u * z.width; height = rows_of u * z.height }

-- the checks of an order: the number of sheets; that the signatures use up the pages; the size of a side
abbrev pub fold_objects : Letters → ℕ → Meaning → Option Objection
fold_objects u k m =
    cond (from_1_to max_sheets k)
    (cond (m.pages % page_count u k == 0)
    (cond (nat_le (columns_of u * m.width) max_side && nat_le (rows_of u * m.height) max_side) None (Some (objection TooLarge 0)))
    (Some (objection Uneven 0)))
    (Some (objection BadOrder 0))

abbrev pub word_objects : Option Letters → ℕ → Meaning → Option Objection
word_objects None k m = Some (objection BadOrder 0)
word_objects (Some u) k m = fold_objects u k m

-- of a scheme and a number of sheets
abbrev pub impose_objects : ℕ → ℕ → Meaning → Option Objection
impose_objects n k m = word_objects (scheme n) k m

-- an order of a scheme and a number of sheets leads to a signature, and to its sides
pub record Imposed (n k : ℕ) (m : Meaning) (o : Option Signature) (x : Extent) : Type 0 where
  pub signature : Signature
  pub made : o ≡ Some signature
  pub word : scheme n ≡ Some (letters_of signature)
  pub sheets : signature.sheets ≡ k
  pub sides : x.pages ≡ sides_of (letters_of signature) signature.sheets m.pages
  pub size : x.size ≡ side_size (letters_of signature) (size_of m)
  pub below : Below (impose_shows o m) x.pages m

-- before the first order: no pages, of the size of those below
pub record Unimposed (m : Meaning) (o : Option Signature) (x : Extent) : Type 0 where
  pub none : o ≡ None
  pub size : x.size ≡ size_of m
  pub pages : x.pages ≡ 0
