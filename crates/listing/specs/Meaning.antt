-- What a listing means as a page source.
use Rattle.std.specs.Prelude.{ℕ, zero, suc, List, [], ◌∷◌, length, slice_index_or}
use Rattle.pages.specs.Maps.{identity}
use Rattle.pages.specs.Meaning.{Meaning}
use Rattle.listing.specs.Inks.{ink_of}
use Rattle.listing.specs.Pages.{cut}
use Rattle.listing.specs.Places.{form_feed}

-- A listing's page, from 1.
abbrev pub page_of : List ℕ → ℕ → List ℕ
page_of file zero = []
page_of file (suc i) = slice_index_or (cut form_feed file) i []

-- The preamble, leaf 0, is empty.
abbrev pub ink_at : List ℕ → ℕ → List ℕ
ink_at file zero = []
ink_at file (suc i) = ink_of (page_of file (suc i))

-- Letter pages; page i is leaf i as it is.
abbrev pub listed : List ℕ → Meaning
listed file = record {
  width = 612;
  height = 792;
  leaves = length (cut form_feed file);
  ink = ink_at file;
  pages = length (cut form_feed file);
  page = λ p. record { leaf = p; map = identity } ∷ [];
  depth = 1;
}
