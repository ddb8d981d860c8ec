-- The Turn layer: every page shows itself, turned by quarters and brought back to its place.
use Rattle.std.specs.Prelude.{◌≡◌, ℕ, zero, suc, cond, [], ◌∷◌, pos, Some, None, Option, nat_le}
use Rattle.pages.specs.Limits.{max_turn}
use Rattle.pages.specs.Meaning.{Meaning}
use Rattle.pages.specs.declared.faults.Refusal.TheVariants.{BadOrder}
use Rattle.pages.specs.declared.maps.Map.{Map}
use Rattle.pages.specs.declared.maps.Size.{Size}
use Rattle.layers.specs.Layering.{Parts, Below}
use Rattle.layers.specs.Orders.{objection}
use Rattle.layers.specs.declared.extent.Extent.{Extent}
use Rattle.layers.specs.declared.parts.Objection.{Objection}

-- the vector that brings a page of w by h back after q quarter turns
abbrev pub back : ℕ → ℕ → ℕ → ℕ × ℕ
back zero w h = (0, 0)
back (suc zero) w h = (h, 0)
back (suc (suc zero)) w h = (w, h)
back (suc (suc (suc q))) w h = (0, w)

abbrev pub turn_map : ℕ → ℕ → ℕ → Map
turn_map q w h = record { turn = q; num = 1; den = 1; x = pos (back q w h).0; y = pos (back q w h).1 }

-- an odd turn exchanges width and height
abbrev pub turn_size : ℕ → ℕ → ℕ → Size
turn_size zero w h = record { width = w; height = h }
turn_size (suc zero) w h = record { width = h; height = w }
turn_size (suc (suc zero)) w h = record { width = w; height = h }
turn_size (suc (suc (suc q))) w h = record { width = h; height = w }

-- every page shows itself, turned
abbrev pub turn_shows : ℕ → Meaning → ℕ → Parts
turn_shows q m p = record { page = p; map = turn_map q m.width m.height } ∷ []

-- an order is of 0 to 3 quarters
abbrev pub turn_objects : ℕ → Option Objection
turn_objects q = cond (nat_le q max_turn) None (Some (objection BadOrder 0))

-- an order of q quarters leads to a rule of `turn` quarters, and to an extent
pub record TurnTaken (q : ℕ) (m : Meaning) (turn : ℕ) (x : Extent) : Type 0 where
  pub turns : turn ≡ q
  pub size : x.size ≡ turn_size q m.width m.height
  pub pages : x.pages ≡ m.pages
  pub below : Below (turn_shows q m) m.pages m
