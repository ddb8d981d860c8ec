-- The Reduce layer: every page shows itself, scaled down.
use Rattle.std.specs.Prelude.{◌≡◌, ℕ, ◌*◌, ◌/◌, ◌%◌, cond, ◌&&◌, [], ◌∷◌, pos, Some, None, Option, ◌==◌, nat_le}
use Rattle.pages.specs.Meaning.{Meaning}
use Rattle.pages.specs.declared.faults.Refusal.TheVariants.{BadOrder, Uneven}
use Rattle.pages.specs.declared.maps.Map.{Map}
use Rattle.pages.specs.declared.maps.Size.{Size}
use Rattle.layers.specs.Layering.{Parts, Below}
use Rattle.layers.specs.Orders.{objection}
use Rattle.layers.specs.declared.extent.Extent.{Extent}
use Rattle.layers.specs.declared.parts.Objection.{Objection}

-- the greatest denominator that an order may name
abbrev pub max_reduction : ℕ
max_reduction = 1000

abbrev pub reduce_map : ℕ → ℕ → Map
reduce_map n d = record { turn = 0; num = n; den = d; x = pos 0; y = pos 0 }

abbrev pub reduce_shows : ℕ → ℕ → Meaning → ℕ → Parts
reduce_shows n d m p = record { page = p; map = reduce_map n d } ∷ []

abbrev pub reduce_size : ℕ → ℕ → Meaning → Size
reduce_size n d m = record { width = m.width * n / d; height = m.height * n / d }

-- width and height must come out whole
abbrev pub reduce_objects : ℕ → ℕ → Meaning → Option Objection
reduce_objects n d m =
    cond (nat_le 1 n && nat_le n d && nat_le d max_reduction)
    (cond (m.width * n % d == 0 && m.height * n % d == 0) None (Some (objection Uneven 0)))
    (Some (objection BadOrder 0))

-- an order of n over d leads to a ratio and an extent
pub record ReduceTaken (n d : ℕ) (m : Meaning) (num den : ℕ) (x : Extent) : Type 0 where
  pub over : num ≡ n
  pub under : den ≡ d
  pub size : x.size ≡ reduce_size n d m
  pub pages : x.pages ≡ m.pages
  pub below : Below (reduce_shows n d m) x.pages m
