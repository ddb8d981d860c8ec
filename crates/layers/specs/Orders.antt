-- What an order does, over any rule.
-- A rule of the type R says what each page shows (`shows`), what it objects to an order, if anything (`o`), and to which
-- rule and extent an order leads to which it objects nothing (`takes`).
use Rattle.std.specs.Prelude.{◌≡◌, ℕ, ◌⊎◌, Some, None, Option}
use Rattle.pages.specs.Meaning.{Meaning, fault}
use Rattle.pages.specs.declared.faults.Fault.{Fault}
use Rattle.pages.specs.declared.faults.Refusal.{Refusal}
use Rattle.layers.specs.Layering.{Parts, Exact, Barred, deeper}
use Rattle.layers.specs.declared.extent.Extent.{Extent}
use Rattle.layers.specs.declared.parts.Objection.{Objection}

abbrev pub objection : Refusal → ℕ → Objection
objection k p = record { kind = k; page = p }

-- a layer as its rule has it, every page exactly so
pub record Laid {R : Type 0} (shows : R → Meaning → ℕ → Parts) (takes : R → Extent → Type 0) (m : Meaning) (rule : R) (extent : Extent) : Type 0 where
  pub taken : takes rule extent
  pub exact : Exact (shows rule m) extent.pages m

-- an order to which the rule objects nothing, and whose pages are crowded or too far
pub record Blocked {R : Type 0} (shows : R → Meaning → ℕ → Parts) (takes : R → Extent → Type 0) (m : Meaning) (e : Fault) : Type 0 where
  pub rule : R
  pub extent : Extent
  pub taken : takes rule extent
  pub barred : Barred (shows rule m) extent.pages m e

-- why an order is refused: what the rule objects comes first
abbrev pub Refused : {R : Type 0} → (R → Meaning → ℕ → Parts) → Option Objection → (R → Extent → Type 0) → Meaning → Fault → Type 0
Refused shows o takes m e =
    ((o ≡ Some (objection e.kind e.page)) × (e ≡ fault e.kind (deeper m) e.page))
    ⊎ ((o ≡ None) × Blocked shows takes m e)
