-- Reading a DSC file, line by line.
use Rattle.std.specs.Prelude.{◌≡◌, ℕ, ◌+◌, ◌-◌, cond, ◌&&◌, List, [], ◌∷◌, ◌++◌, length, take, Some, None, Ok, Err, Option, Result, ◌==◌, nat_lt}
use Rattle.std.specs.Str.{bytes_eq}
use Rattle.pages.specs.declared.faults.Fault.{Fault}
use Rattle.pages.specs.declared.faults.Refusal.{Refusal}
use Rattle.pages.specs.declared.faults.Refusal.TheVariants.{NotDsc, OutOfOrder, BadComment, Miscount, Unfinished, TooLong}
use Rattle.pages.specs.declared.maps.Size.{Size}
use Rattle.pages.specs.Meaning.{fault}
use Rattle.dsc.specs.declared.scanner.Part.{Part}
use Rattle.dsc.specs.declared.scanner.Part.TheVariants.{Head, Preamble, Leaves}
use Rattle.dsc.specs.declared.scanner.Scanner.{Scanner}
use Rattle.dsc.specs.declared.scanner.Turn.{Turn}
use Rattle.dsc.specs.declared.scanner.Turn.TheVariants.{On, Ink, End}
use Rattle.dsc.specs.Bounds.{longest, mark}
use Rattle.pages.specs.Pieces.{Piece}
use Rattle.pages.specs.Inks.{Context, lines_of, text_of}
use Rattle.dsc.specs.Comments.{Kind, end_comments, trailer, pages, box, page, other, kind}

-- a refusal at a line: the pages begun before it, and its first byte
abbrev pub at_line : Refusal → Scanner → ℕ → Fault
at_line k s at = record { kind = k; layer = 1; page = s.begun; offset = at }

-- what a line does: the reading goes on, with these numbers added to the index, or ends with them, or is refused
pub data Step : Type 0 where
  goes : Scanner → List ℕ → Step
  ends : Scanner → List ℕ → Step
  stops : Fault → Step

-- the scanner in another part
abbrev pub to_part : Scanner → Part → Scanner
to_part s p = record { part = p; pages = s.pages; size = s.size; begun = s.begun; from = s.from }

-- EndComments: the preamble follows, where both values came
abbrev pub end_head : Option ℕ → Option Size → Scanner → ℕ → ℕ → Step
end_head (Some n) (Some z) s at next = goes (record { part = Preamble; pages = n; size = z; begun = s.begun; from = next }) []
end_head (Some n) None s at next = stops (at_line OutOfOrder s at)
end_head None z s at next = stops (at_line OutOfOrder s at)

-- the first Pages and the first BoundingBox count
abbrev pub take_pages : Option ℕ → Option Size → Scanner → ℕ → Option ℕ → Step
take_pages (Some n) z s at v = goes s []
take_pages None z s at None = stops (at_line BadComment s at)
take_pages None z s at (Some n) = goes (to_part s (Head (Some n) z)) []

abbrev pub take_size : Option ℕ → Option Size → Scanner → ℕ → Option Size → Step
take_size p (Some z) s at v = goes s []
take_size p None s at None = stops (at_line BadComment s at)
take_size p None s at (Some z) = goes (to_part s (Head p (Some z))) []

abbrev pub in_head : Option ℕ → Option Size → Scanner → ℕ → ℕ → Kind → Step
in_head p z s at next end_comments = end_head p z s at next
in_head p z s at next trailer = stops (at_line OutOfOrder s at)
in_head p z s at next (pages v) = take_pages p z s at v
in_head p z s at next (box v) = take_size p z s at v
in_head p z s at next (page l o) = stops (at_line OutOfOrder s at)
in_head p z s at next other = goes s []

-- the ink that ends at a line
abbrev pub pair : Scanner → ℕ → List ℕ
pair s at = s.from ∷ ((at - s.from) ∷ [])

-- a Page line opens the next leaf
abbrev pub open_leaf : Scanner → ℕ → ℕ → Option ℕ → Step
open_leaf s at next None = stops (at_line BadComment s at)
open_leaf s at next (Some o) = cond (nat_lt s.begun s.pages && o == s.begun + 1) (goes (record { part = Leaves; pages = s.pages; size = s.size; begun = s.begun + 1; from = next }) (pair s at)) (stops (at_line Miscount s at))

-- past the head
abbrev pub in_body : Scanner → ℕ → ℕ → Kind → Step
in_body s at next end_comments = goes s []
in_body s at next trailer = cond (s.begun == s.pages) (ends s (pair s at)) (stops (at_line Miscount s at))
in_body s at next (pages v) = goes s []
in_body s at next (box v) = goes s []
in_body s at next (page l o) = open_leaf s at next o
in_body s at next other = goes s []

abbrev pub by_part : Part → Scanner → ℕ → ℕ → Kind → Step
by_part (Head p z) s at next k = in_head p z s at next k
by_part Preamble s at next k = in_body s at next k
by_part Leaves s at next k = in_body s at next k

-- a line of kind k from offset at, with the next one at next
abbrev pub step : Scanner → ℕ → ℕ → Kind → Step
step s at next k = by_part s.part s at next k

-- the same, as the scanner tells it
abbrev pub told : Scanner → Result Turn Fault → Step
told s (Ok On) = goes s []
told s (Ok (Ink i)) = goes s (i.span.offset ∷ i.span.length ∷ [])
told s (Ok (End i)) = ends s (i.span.offset ∷ i.span.length ∷ [])
told s (Err f) = stops f

-- an ink that ends is that of the last begun leaf, or of the preamble, and then the next leaf has begun
abbrev pub Counts : Scanner → Result Turn Fault → Scanner → Type 0
Counts s (Ok On) t = t.begun ≡ s.begun
Counts s (Ok (Ink i)) t = (i.leaf ≡ s.begun) × (t.begun ≡ s.begun + 1)
Counts s (Ok (End i)) t = i.leaf ≡ s.begun
Counts s (Err f) t = Unit {0}

-- what a file comes to: its leaves but for the preamble, its size, its index
pub record Read : Type 0 where
  pub leaves : ℕ
  pub size : Size
  pub index : List ℕ

abbrev pub read : Scanner → List ℕ → Read
read s xs = record { leaves = s.begun; size = s.size; index = xs }

abbrev pub follow : Step → List ℕ → (Scanner → List ℕ → Result Read Fault) → Result Read Fault
follow (goes s ys) xs k = k s (xs ++ ys)
follow (ends s ys) xs k = Ok (read s (xs ++ ys))
follow (stops f) xs k = Err f

-- the kind of a piece of the file: its text's, so far in every context
abbrev pub kind_of : Piece Context → Kind
kind_of p = kind (text_of p.bytes)

-- the reading of pieces from offset at, with the index so far; it sees of each its length and its kind
abbrev pub run : Scanner → ℕ → List ℕ → List (Piece Context) → Result Read Fault
run s at xs [] = Err (at_line Unfinished s at)
run s at xs (p ∷ ps) = follow (step s at (at + length p.bytes) (kind_of p)) xs (λ s' ys. run s' (at + length p.bytes) ys ps)

-- the size before a file says another
abbrev pub letter : Size
letter = record { width = 612; height = 792 }

abbrev pub start : Scanner
start = record { part = Head None None; pages = 0; size = letter; begun = 0; from = 0 }

abbrev pub scanned : List ℕ → Result Read Fault
scanned file =
    cond (nat_lt longest (length file)) (Err (fault TooLong 1 0))
    (cond (bytes_eq mark (take 14 file)) (run start 0 [] (lines_of file)) (Err (fault NotDsc 1 0)))

-- a reader that is not loaded
abbrev pub blank : Read
blank = record { leaves = 0; size = letter; index = 0 ∷ 0 ∷ [] }

abbrev pub meant_by : Result Read Fault → Read
meant_by (Ok o) = o
meant_by (Err f) = blank

-- a file that is refused means what a reader not loaded means
abbrev pub meant : List ℕ → Read
meant file = meant_by (scanned file)
