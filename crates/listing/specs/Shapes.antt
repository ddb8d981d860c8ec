-- What a listing is: pages of lines, parted by form feeds.
use Rattle.std.specs.Prelude.{◌≡◌, ℕ, ◌≤◌, Bool, true, not, ◌&&◌, ◌⊎◌, List, [], ◌∷◌, ◌++◌, length, ◌==◌}
use Rattle.pages.specs.Limits.{max_pages}
use Rattle.listing.specs.Pages.{cut}
use Rattle.listing.specs.Places.{form_feed, line_feed, max_columns, max_lines}
use Rattle.listing.specs.Scans.{Good}

-- Parts, each of at most n bytes.
abbrev pub AllWithin : ℕ → List (List ℕ) → Type 0
AllWithin n [] = Unit {0}
AllWithin n (l ∷ ls) = (length l ≤ n) × AllWithin n ls

-- A page: few enough lines, and none too long.
pub record Paged (page : List ℕ) : Type 0 where
  pub lines : length (cut line_feed page) ≤ max_lines
  pub columns : AllWithin max_columns (cut line_feed page)

abbrev pub AllPaged : List (List ℕ) → Type 0
AllPaged [] = Unit {0}
AllPaged (p ∷ ps) = Paged p × AllPaged ps

-- Parts with a separator between each two.
abbrev pub joined : ℕ → List (List ℕ) → List ℕ
joined s [] = []
joined s (p ∷ []) = p
joined s (p ∷ q ∷ ps) = p ++ s ∷ joined s (q ∷ ps)

-- No byte is the separator.
abbrev pub free : ℕ → List ℕ → Bool
free s [] = true
free s (b ∷ bs) = not (b == s) && free s bs

abbrev pub AllFree : ℕ → List (List ℕ) → Type 0
AllFree s [] = Unit {0}
AllFree s (p ∷ ps) = (free s p ≡ true) × AllFree s ps

-- Bytes are their parts, with a separator between each two and perhaps one at the end; no byte is lost, and no part
-- holds a separator.
pub record Parted (s : ℕ) (bs : List ℕ) : Type 0 where
  pub whole : (bs ≡ joined s (cut s bs)) ⊎ (bs ≡ joined s (cut s bs) ++ s ∷ [])
  pub apart : AllFree s (cut s bs)

-- A file without a fault is its pages, each of them its lines, and keeps every bound.
pub record Listed (file : List ℕ) : Type 0 where
  pub pages : Parted form_feed file
  pub lines : (page : List ℕ) → Parted line_feed page
  pub many : length (cut form_feed file) ≤ max_pages
  pub shapes : AllPaged (cut form_feed file)

abbrev pub ListingsAreTheirPages : Type 0
ListingsAreTheirPages = (file : List ℕ) → Good file → Listed file
