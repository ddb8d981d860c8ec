-- What loading a reader answers, and what the reader then holds.
use Rattle.std.specs.Prelude.{◌≡◌, ℕ, ◌⊎◌, List, length, Ok, Err, Result}
use Rattle.pages.specs.Meaning.{fault}
use Rattle.pages.specs.declared.faults.Fault.{Fault}
use Rattle.pages.specs.declared.faults.Refusal.TheVariants.{WrongIndex}
use Rattle.listing.specs.Pages.{cut}
use Rattle.listing.specs.Places.{form_feed}
use Rattle.listing.specs.Scans.{Bad, Good, Indexed}
use Rattle.listing.specs.declared.reader.Listing.{Listing}

abbrev pub Loads : List ℕ → List ℕ → Listing → Listing → Result ℕ Fault → Type 0
Loads file index before after (Ok n) = Good file × (n ≡ length (cut form_feed file)) × Indexed file index × (after.file.now ≡ file) × (after.index.now ≡ index)
Loads file index before after (Err e) = (after ≡ before) × (Bad file e ⊎ (Good file × (Indexed file index → ⊥) × (e ≡ fault WrongIndex 1 0)))
