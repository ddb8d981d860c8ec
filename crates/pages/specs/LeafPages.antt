-- What a source of depth 1 answers that shows each of its n leaves as a page, as it is.
use Rattle.std.specs.Prelude.{ℕ, cond, ◌&&◌, List, [], ◌∷◌, Ok, Err, Result, nat_le}
use Rattle.std.specs.Option.{ok_or}
use Rattle.pages.specs.Maps.{identity}
use Rattle.pages.specs.Meaning.{fault, slot_at}
use Rattle.pages.specs.declared.maps.Placement.{Placement}
use Rattle.pages.specs.declared.faults.Fault.{Fault}
use Rattle.pages.specs.declared.faults.Refusal.TheVariants.{NoSuch}

-- the page of a leaf
abbrev pub leaf_page : ℕ → List Placement
leaf_page l = record { leaf = l; map = identity } ∷ []

abbrev pub leaf_laid : ℕ → ℕ → Result ℕ Fault
leaf_laid n p = cond (nat_le 1 p && nat_le p n) (Ok 1) (Err (fault NoSuch 1 p))

abbrev pub leaf_place : ℕ → ℕ → ℕ → Result Placement Fault
leaf_place n p s = cond (nat_le 1 p && nat_le p n) (ok_or (slot_at (leaf_page p) s) (fault NoSuch 1 p)) (Err (fault NoSuch 1 p))
