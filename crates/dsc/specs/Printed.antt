-- A printed job, read back.
use Rattle.std.specs.Prelude.{◌≡◌, ℕ, ◌+◌, ◌≤◌, List, [], ◌∷◌, ◌++◌, length, Ok, codes, decimal, slice_index_or}
use Rattle.pages.specs.Limits.{max_pages, max_side}
use Rattle.pages.specs.Inks.{Ink}
use Rattle.dsc.specs.Bounds.{longest, mark}
use Rattle.dsc.specs.Scans.{scanned, meant}
use Rattle.dsc.specs.Readers.{meaning_of}

-- a text as a line
abbrev pub row : List ℕ → List ℕ
row t = t ++ 10 ∷ []

abbrev pub box_text : ℕ → ℕ → List ℕ
box_text w h = codes "%%BoundingBox: 0 0 " ++ (decimal w ++ (32 ∷ decimal h))

abbrev pub pages_text : ℕ → List ℕ
pages_text n = codes "%%Pages: " ++ decimal n

abbrev pub page_text : ℕ → List ℕ
page_text s = codes "%%Page: " ++ (decimal s ++ (32 ∷ decimal s))

-- the head, the preamble, the sides from s on, the ending
abbrev pub opening : ℕ → ℕ → ℕ → List ℕ → List ℕ
opening w h n pre = row mark ++ (row (box_text w h) ++ (row (pages_text n) ++ (row (codes "%%EndComments") ++ pre)))

abbrev pub sides : ℕ → List (List ℕ) → List ℕ
sides s [] = []
sides s (b ∷ bs) = row (page_text s) ++ (b ++ sides (s + 1) bs)

abbrev pub ending : List ℕ
ending = row (codes "%%Trailer") ++ row (codes "%%EOF")

abbrev pub printed : ℕ → ℕ → List ℕ → List (List ℕ) → List ℕ
printed w h pre bodies = opening w h (length bodies) pre ++ (sides 1 bodies ++ ending)

abbrev pub AllInk : List (List ℕ) → Type 0
AllInk [] = Unit {0}
AllInk (b ∷ bs) = Ink b × AllInk bs

-- what may be printed so
pub record Job (w h : ℕ) (pre : List ℕ) (bodies : List (List ℕ)) : Type 0 where
  pub wide : (1 ≤ w) × (w ≤ max_side)
  pub high : (1 ≤ h) × (h ≤ max_side)
  pub few : length bodies ≤ max_pages
  pub first : Ink pre
  pub rest : AllInk bodies
  pub short : length (printed w h pre bodies) ≤ longest

-- a file that is accepted, and whose reader shows these sides
pub record Shows (w h : ℕ) (pre : List ℕ) (bodies : List (List ℕ)) (file : List ℕ) : Type 0 where
  pub accepted : scanned file ≡ Ok (meant file)
  pub wide : (meaning_of file).width ≡ w
  pub high : (meaning_of file).height ≡ h
  pub leaves : (meaning_of file).leaves ≡ length bodies
  pub inks : (leaf : ℕ) → leaf ≤ length bodies → (meaning_of file).ink leaf ≡ slice_index_or (pre ∷ bodies) leaf []

-- what was printed reads back
abbrev pub ReadsBack : Type 0
ReadsBack = (w h : ℕ) (pre : List ℕ) (bodies : List (List ℕ)) → Job w h pre bodies → Shows w h pre bodies (printed w h pre bodies)
