-- The index of a listing, and what scanning answers.
use Rattle.std.specs.Prelude.{◌≡◌, ℕ, ◌+◌, ◌<◌, ◌≤◌, ◌⊎◌, List, [], ◌∷◌, length, take, Some, None, Ok, Err, Result}
use Rattle.pages.specs.Limits.{max_ink}
use Rattle.pages.specs.Meaning.{fault}
use Rattle.pages.specs.Splice.{splice}
use Rattle.pages.specs.declared.faults.Fault.{Fault}
use Rattle.pages.specs.declared.faults.Refusal.TheVariants.{TooLong, ShortBuffer}
use Rattle.listing.specs.Pages.{cut}
use Rattle.listing.specs.Places.{form_feed, refusal, top}

-- Offset and length of each page, one after the other; a form feed parts them.
abbrev pub index_from : ℕ → List (List ℕ) → List ℕ
index_from at [] = []
index_from at (p ∷ ps) = at ∷ length p ∷ index_from (at + length p + 1) ps

-- The pair of the empty preamble comes first.
abbrev pub file_index : List ℕ → List ℕ
file_index file = 0 ∷ 0 ∷ index_from 0 (cut form_feed file)

-- A file that is a listing.
pub record Good (file : List ℕ) : Type 0 where
  pub short : length file ≤ max_ink
  pub clean : refusal top 0 file ≡ None

-- An index that begins with the pairs of a file; what follows them does not count.
abbrev pub Indexed : List ℕ → List ℕ → Type 0
Indexed file index = take (length (file_index file)) index ≡ file_index file

-- Why a file is no listing: it is too long, before all else, or a byte of it cannot stand where it stands.
abbrev pub Bad : List ℕ → Fault → Type 0
Bad file e = (max_ink < length file → e ≡ fault TooLong 1 0) × (length file ≤ max_ink → refusal top 0 file ≡ Some e)

-- What scanning answers and leaves in the index.
abbrev pub Scans : List ℕ → List ℕ → List ℕ → Result ℕ Fault → Type 0
Scans file before after (Ok n) = Good file × (n ≡ length (cut form_feed file)) × (length (file_index file) ≤ length before) × (after ≡ splice before 0 (file_index file))
Scans file before after (Err e) = (after ≡ before) × (Bad file e ⊎ (Good file × (length before < length (file_index file)) × (e ≡ fault ShortBuffer 1 0)))
