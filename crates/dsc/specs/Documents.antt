-- An accepted DSC file, in its parts.
use Rattle.std.specs.Prelude.{◌≡◌, ℕ, ◌+◌, ◌≤◌, List, [], ◌∷◌, ◌++◌, length, take, Some, None, Ok, Option, slice_index_or}
use Rattle.pages.specs.declared.maps.Size.{Size}
use Rattle.pages.specs.Pieces.{Piece, fresh, after, done}
use Rattle.pages.specs.Inks.{Context, plain, lines, line, lines_of, text_of, Ink}
use Rattle.dsc.specs.Bounds.{longest, mark}
use Rattle.dsc.specs.Comments.{Kind, end_comments, trailer, pages, box, page, other, kind}
use Rattle.dsc.specs.Scans.{Read, scanned, kind_of}
use Rattle.dsc.specs.Readers.{ink_of}

-- one line, with its line feed, of kind k
pub record Line (k : Kind) (l : List ℕ) : Type 0 where
  pub closed : after lines (fresh plain) l ≡ fresh plain
  pub single : done lines (fresh plain) l ≡ line l ∷ []
  pub means : kind (text_of l) ≡ k

-- what a line of the head before its end may be
abbrev pub Heads : Kind → Type 0
Heads end_comments = ⊥
Heads trailer = ⊥
Heads (pages v) = Unit {0}
Heads (box v) = Unit {0}
Heads (page l o) = ⊥
Heads other = Unit {0}

abbrev pub AllHead : List (Piece Context) → Type 0
AllHead [] = Unit {0}
AllHead (p ∷ ps) = Heads (kind_of p) × AllHead ps

-- the value of the first Pages line
abbrev pub pages_or : Kind → Option ℕ → Option ℕ
pages_or end_comments v = v
pages_or trailer v = v
pages_or (pages n) v = n
pages_or (box z) v = v
pages_or (page l o) v = v
pages_or other v = v

abbrev pub first_pages : List (Piece Context) → Option ℕ
first_pages [] = None
first_pages (p ∷ ps) = pages_or (kind_of p) (first_pages ps)

-- the value of the first BoundingBox line
abbrev pub size_or : Kind → Option Size → Option Size
size_or end_comments v = v
size_or trailer v = v
size_or (pages n) v = v
size_or (box z) v = z
size_or (page l o) v = v
size_or other v = v

abbrev pub first_size : List (Piece Context) → Option Size
first_size [] = None
first_size (p ∷ ps) = size_or (kind_of p) (first_size ps)

-- the lines before EndComments, which announce n pages of size z
pub record Head (n : ℕ) (z : Size) (bs : List ℕ) : Type 0 where
  pub closed : after lines (fresh plain) bs ≡ fresh plain
  pub allowed : AllHead (done lines (fresh plain) bs)
  pub announced : first_pages (done lines (fresh plain) bs) ≡ Some n
  pub sized : first_size (done lines (fresh plain) bs) ≡ Some z

-- a Page line, and the ink that it opens
pub record Leaf : Type 0 where
  pub opener : List ℕ
  pub ink : List ℕ

abbrev pub bytes_of : List Leaf → List ℕ
bytes_of [] = []
bytes_of (f ∷ fs) = f.opener ++ (f.ink ++ bytes_of fs)

abbrev pub inks_of : List Leaf → List (List ℕ)
inks_of [] = []
inks_of (f ∷ fs) = f.ink ∷ inks_of fs

-- the numbers of the leaves that begin at an offset
abbrev pub index_of : ℕ → List Leaf → List ℕ
index_of at [] = []
index_of at (f ∷ fs) = (at + length f.opener) ∷ length f.ink ∷ index_of (at + length f.opener + length f.ink) fs

-- the ordinals run from k, and every ink has its form
abbrev pub Numbered : ℕ → List Leaf → Type 0
Numbered k [] = Unit {0}
Numbered k (f ∷ fs) = ((label : List ℕ) × Line (page label (Some k)) f.opener) × Ink f.ink × Numbered (k + 1) fs

-- the Trailer line, which may be the file's last without a line feed, and what follows it
pub record Ends (last rest : List ℕ) : Type 0 where
  pub first : lines_of (last ++ rest) ≡ line last ∷ lines_of rest
  pub means : kind (text_of last) ≡ trailer

-- the bytes of the file in their order, with nothing between
pub record Document (file : List ℕ) (o : Read) : Type 0 where
  pub head : List ℕ
  pub closing : List ℕ
  pub preamble : List ℕ
  pub leaves : List Leaf
  pub last : List ℕ
  pub rest : List ℕ
  pub whole : file ≡ head ++ (closing ++ (preamble ++ (bytes_of leaves ++ (last ++ rest))))
  pub marked : take 14 file ≡ mark
  pub short : length file ≤ longest
  pub headed : Head o.leaves o.size head
  pub closes : Line end_comments closing
  pub inked : Ink preamble
  pub numbered : Numbered 1 leaves
  pub ends : Ends last rest
  pub count : o.leaves ≡ length leaves
  pub index : o.index ≡ (length head + length closing) ∷ length preamble ∷ index_of (length head + length closing + length preamble) leaves

-- the files that are accepted are just those that have these parts; the index is theirs, and cuts out their inks
pub record Accepts : Type 0 where
  pub parts : (file : List ℕ) (o : Read) → scanned file ≡ Ok o → Document file o
  pub whole : (file : List ℕ) (o : Read) → Document file o → scanned file ≡ Ok o
  pub inks : (file : List ℕ) (o : Read) (d : Document file o) (leaf : ℕ) → leaf ≤ o.leaves → ink_of file o.index leaf ≡ slice_index_or (d.preamble ∷ inks_of d.leaves) leaf []
