-- What load does to a reader, and which label a leaf has.
use Rattle.std.specs.Prelude.{◌≡◌, ℕ, ◌+◌, ◌-◌, ◌<◌, ◌≤◌, ◌⊎◌, List, length, take, drop, Some, Ok, Err, Result}
use Rattle.std.specs.Borrow.{Bor}
use Rattle.pages.specs.declared.faults.Fault.{Fault}
use Rattle.pages.specs.declared.faults.Refusal.TheVariants.{NoSuch}
use Rattle.pages.specs.Inks.{text_of}
use Rattle.pages.specs.Limits.{max_ink}
use Rattle.pages.specs.Meaning.{Meaning, fault, length_at, end_at, written, pour_at, poured}
use Rattle.pages.specs.declared.spans.Span.{Span}
use Rattle.dsc.specs.declared.reader.Dsc.{Dsc}
use Rattle.dsc.specs.Values.{blanks}
use Rattle.dsc.specs.Comments.{kind, page}
use Rattle.dsc.specs.Scans.{meant}
use Rattle.dsc.specs.Readers.{offset_of, length_of, meaning_of}

-- a reader that was loaded holds the file and the index; a refusal alters nothing
abbrev pub Loaded : Result ℕ Fault → List ℕ → List ℕ → Dsc → Dsc → Type 0
Loaded (Ok n) file index old new = (new.file.now ≡ file) × (new.index.now ≡ index)
Loaded (Err f) file index old new = new ≡ old

-- the pair of a leaf
abbrev pub Lies : Dsc → ℕ → Result Span Fault → Type 0
Lies d leaf (Ok s) = (leaf ≤ d.leaves) × (s.offset ≡ offset_of d.index.now leaf) × (s.length ≡ length_of d.index.now leaf)
Lies d leaf (Err f) = (d.leaves < leaf) × (f ≡ fault NoSuch 1 leaf)

-- where the line begins that opens a leaf: behind the ink before
abbrev pub line_offset : List ℕ → ℕ → ℕ
line_offset index leaf = offset_of index (leaf - 1) + length_of index (leaf - 1)

-- that line, up to the leaf's ink
abbrev pub page_line : List ℕ → List ℕ → ℕ → List ℕ
page_line file index leaf = take (offset_of index leaf - line_offset index leaf) (drop (line_offset index leaf) file)

-- where in a Page line's text its label begins: behind `%%Page:` and the blanks there
abbrev pub label_place : List ℕ → ℕ
label_place t = 7 + blanks (drop 7 t)

abbrev pub label_offset : List ℕ → List ℕ → ℕ → ℕ
label_offset file index leaf = line_offset index leaf + label_place (text_of (page_line file index leaf))

-- refused just at 0 and past the last leaf; else the label of the leaf's own Page line, which has the leaf's ordinal,
-- and the bytes of the file at the label's place
abbrev pub Labels : Dsc → ℕ → Result (Bor (List ℕ)) Fault → Type 0
Labels d leaf (Ok l) = (1 ≤ leaf) × (leaf ≤ d.leaves) × (kind (text_of (page_line d.file.now d.index.now leaf)) ≡ page l.now (Some leaf)) × (l.now ≡ take (length l.now) (drop (label_offset d.file.now d.index.now leaf) d.file.now))
Labels d leaf (Err f) = ((leaf ≡ 0) ⊎ (d.leaves < leaf)) × (f ≡ fault NoSuch 1 leaf)

-- a leaf's ink, as a part of the file: its length is the answer to length, and writing it is what pour does
pub record InkOf (m : Meaning) (leaf : ℕ) (ink : List ℕ) : Type 0 where
  pub is : ink ≡ m.ink leaf
  pub small : length ink ≤ max_ink
  pub long : length_at m leaf ≡ Ok (length ink)
  pub end : (n at : ℕ) → end_at ink n at ≡ pour_at m leaf n at
  pub bytes : (b : List ℕ) (at : ℕ) → written ink b at ≡ poured m leaf b at

abbrev pub Inks : Dsc → ℕ → Result (Bor (List ℕ)) Fault → Type 0
Inks d leaf (Ok ink) = InkOf (meaning_of d.file.now) leaf ink.now
Inks d leaf (Err f) = ((meant d.file.now).leaves < leaf) × (f ≡ fault NoSuch 1 leaf)
