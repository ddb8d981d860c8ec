-- What a reader answers to the number of a leaf.
use Rattle.std.specs.Prelude.{◌≡◌, ℕ, ◌<◌, ◌≤◌, List, None, Some, Ok, Err, Option, Result}
use Rattle.std.specs.Borrow.{Bor}
use Rattle.pages.specs.Meaning.{fault}
use Rattle.pages.specs.declared.faults.Fault.{Fault}
use Rattle.pages.specs.declared.faults.Refusal.TheVariants.{NoSuch}
use Rattle.listing.specs.Meaning.{page_of}

-- The page of a leaf, of so many; the preamble has none.
abbrev pub PageOf : List ℕ → ℕ → ℕ → Result (Option (Bor (List ℕ))) Fault → Type 0
PageOf file leaves leaf (Ok None) = leaf ≡ 0
PageOf file leaves leaf (Ok (Some page)) = (1 ≤ leaf) × (leaf ≤ leaves) × (page.now ≡ page_of file leaf)
PageOf file leaves leaf (Err e) = (leaves < leaf) × (e ≡ fault NoSuch 1 leaf)
