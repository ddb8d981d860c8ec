-- How comments are written.
use Rattle.std.specs.Prelude.{◌≡◌, ℕ, zero, suc, ◌+◌, ◌-◌, ◌*◌, ◌≤◌, ◌⊎◌, List, [], ◌∷◌, ◌++◌, length, Some, codes}
use Rattle.pages.specs.declared.maps.Size.{Size}
use Rattle.pages.specs.Limits.{max_pages, max_side}
use Rattle.dsc.specs.Bounds.{most_digits}
use Rattle.dsc.specs.Comments.{kind, end_comments, trailer, pages, box, page}

-- so many blanks (byte 32)
abbrev pub spaces : ℕ → List ℕ
spaces zero = []
spaces (suc n) = 32 ∷ spaces n

abbrev pub Each : (ℕ → Type 0) → List ℕ → Type 0
Each P [] = Unit {0}
Each P (b ∷ bs) = P b × Each P bs

-- every byte but c
abbrev pub Not : ℕ → ℕ → Type 0
Not c b = b ≡ c → ⊥

-- digits, from `0` (48) to `9` (57), and the number that they write
abbrev pub Digit : ℕ → Type 0
Digit b = (48 ≤ b) × (b ≤ 57)

abbrev pub value_from : ℕ → List ℕ → ℕ
value_from a [] = a
value_from a (d ∷ ds) = value_from (a * 10 + (d - 48)) ds

pub record Numeral (ds : List ℕ) (n : ℕ) : Type 0 where
  pub some : 1 ≤ length ds
  pub few : length ds ≤ most_digits
  pub digits : Each Digit ds
  pub value : value_from 0 ds ≡ n

-- a label: a byte or more, and no blank or parenthesis; or from `(` (40) to the next `)` (41)
pub record Bare (l : List ℕ) : Type 0 where
  pub some : 1 ≤ length l
  pub blankless : Each (Not 32) l
  pub closed : (Each (Not 40) l) × (Each (Not 41) l)

pub record Enclosed (l : List ℕ) : Type 0 where
  pub inner : List ℕ
  pub is : l ≡ 40 ∷ (inner ++ 41 ∷ [])
  pub next : Each (Not 41) inner

abbrev pub Label : List ℕ → Type 0
Label l = Bare l ⊎ Enclosed l

pub record PagesText (t : List ℕ) (n : ℕ) : Type 0 where
  pub before : ℕ
  pub behind : ℕ
  pub count : List ℕ
  pub is : t ≡ codes "%%Pages:" ++ (spaces before ++ (count ++ spaces behind))
  pub counted : Numeral count n
  pub few : n ≤ max_pages

pub record BoxText (t : List ℕ) (z : Size) : Type 0 where
  pub before : ℕ
  pub second : ℕ
  pub third : ℕ
  pub fourth : ℕ
  pub behind : ℕ
  pub left : List ℕ
  pub bottom : List ℕ
  pub right : List ℕ
  pub top : List ℕ
  pub is : t ≡ codes "%%BoundingBox:" ++ (spaces before ++ (left ++ (32 ∷ (spaces second ++ (bottom ++ (32 ∷ (spaces third ++ (right ++ (32 ∷ (spaces fourth ++ (top ++ spaces behind)))))))))))
  pub origin : Numeral left 0 × Numeral bottom 0
  pub corner : Numeral right z.width × Numeral top z.height
  pub wide : (1 ≤ z.width) × (z.width ≤ max_side)
  pub high : (1 ≤ z.height) × (z.height ≤ max_side)

pub record PageText (t label : List ℕ) (n : ℕ) : Type 0 where
  pub before : ℕ
  pub between : ℕ
  pub behind : ℕ
  pub ordinal : List ℕ
  pub is : t ≡ codes "%%Page:" ++ (spaces before ++ (label ++ (32 ∷ (spaces between ++ (ordinal ++ spaces behind)))))
  pub labelled : Label label
  pub numbered : Numeral ordinal n

-- a line is of a kind, and has values, just where its text is so written
pub record CommentsAreWritten : Type 0 where
  pub end_are : (t : List ℕ) → kind t ≡ end_comments → t ≡ codes "%%EndComments"
  pub end_make : kind (codes "%%EndComments") ≡ end_comments
  pub trailer_are : (t : List ℕ) → kind t ≡ trailer → t ≡ codes "%%Trailer"
  pub trailer_make : kind (codes "%%Trailer") ≡ trailer
  pub pages_are : (t : List ℕ) (n : ℕ) → kind t ≡ pages (Some n) → PagesText t n
  pub pages_make : (t : List ℕ) (n : ℕ) → PagesText t n → kind t ≡ pages (Some n)
  pub box_are : (t : List ℕ) (z : Size) → kind t ≡ box (Some z) → BoxText t z
  pub box_make : (t : List ℕ) (z : Size) → BoxText t z → kind t ≡ box (Some z)
  pub page_are : (t label : List ℕ) (n : ℕ) → kind t ≡ page label (Some n) → PageText t label n
  pub page_make : (t label : List ℕ) (n : ℕ) → PageText t label n → kind t ≡ page label (Some n)
