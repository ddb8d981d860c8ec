-- What a DSC reader holds and means.
use Rattle.std.specs.Prelude.{◌≡◌, ℕ, ◌+◌, ◌*◌, cond, List, [], ◌∷◌, length, take, drop, Ok, Err, Result, slice_index}
use Rattle.std.specs.Str.{bytes_eq}
use Rattle.pages.specs.declared.faults.Fault.{Fault}
use Rattle.pages.specs.declared.faults.Refusal.TheVariants.{WrongIndex}
use Rattle.pages.specs.Maps.{identity}
use Rattle.pages.specs.Meaning.{Meaning}
use Rattle.dsc.specs.declared.scanner.Scanner.{Scanner}
use Rattle.pages.specs.Meaning.{fault}
use Rattle.dsc.specs.Scans.{Read, scanned, meant}

-- the pair of a leaf in an index, the preamble's first
abbrev pub offset_of : List ℕ → ℕ → ℕ
offset_of index leaf = slice_index index (2 * leaf)

abbrev pub length_of : List ℕ → ℕ → ℕ
length_of index leaf = slice_index index (2 * leaf + 1)

-- the part of the file that a leaf's pair names
abbrev pub ink_of : List ℕ → List ℕ → ℕ → List ℕ
ink_of file index leaf = take (length_of index leaf) (drop (offset_of index leaf) file)

-- what a reader of a file means: page i is leaf i, as it is
abbrev pub meaning_of : List ℕ → Meaning
meaning_of file = record {
  width = (meant file).size.width;
  height = (meant file).size.height;
  leaves = (meant file).leaves;
  ink = ink_of file (meant file).index;
  pages = (meant file).leaves;
  page = λ p. record { leaf = p; map = identity } ∷ [];
  depth = 1;
}

-- what a reader that is not loaded means
pub record Unloaded (m : Meaning) : Type 0 where
  pub wide : m.width ≡ 612
  pub high : m.height ≡ 792
  pub leaves : m.leaves ≡ 0
  pub pages : m.pages ≡ 0
  pub preamble : m.ink 0 ≡ []

-- an index that begins with the numbers of the file
abbrev pub Held : List ℕ → List ℕ → Type 0
Held file index = take (length (meant file).index) index ≡ (meant file).index

-- load answers as scan does, if the index begins with the numbers that scan would write
abbrev pub load_answer : Result Read Fault → List ℕ → Result ℕ Fault
load_answer (Err f) index = Err f
load_answer (Ok o) index = cond (bytes_eq (take (length o.index) index) o.index) (Ok o.leaves) (Err (fault WrongIndex 1 0))

-- load's reading, against an index
pub record Checked (file index : List ℕ) (s : Scanner) : Type 0 where
  pub answer : load_answer (scanned file) index ≡ Ok s.begun
  pub counted : s.begun ≡ (meant file).leaves
  pub sized : s.size ≡ (meant file).size
  pub held : Held file index

abbrev pub Verified : List ℕ → List ℕ → Result Scanner Fault → Type 0
Verified file index (Ok s) = Checked file index s
Verified file index (Err f) = load_answer (scanned file) index ≡ Err f
