-- The Pad layer: the pages below, and blanks at the end until a number divides the count.
use Rattle.std.specs.Prelude.{◌≡◌, ℕ, ◌+◌, ◌-◌, ◌*◌, ◌/◌, cond, ◌&&◌, [], ◌∷◌, Some, None, Option, nat_le}
use Rattle.pages.specs.Limits.{max_pages}
use Rattle.pages.specs.Meaning.{Meaning, has, size_of}
use Rattle.pages.specs.declared.faults.Refusal.TheVariants.{BadOrder, TooMany}
use Rattle.layers.specs.Layering.{Parts, Below, whole}
use Rattle.layers.specs.Orders.{objection}
use Rattle.layers.specs.declared.extent.Extent.{Extent}
use Rattle.layers.specs.declared.parts.Objection.{Objection}

-- the greatest number that an order may name
abbrev pub max_multiple : ℕ
max_multiple = 512

-- the least multiple of k from n on
abbrev pub pad_count : ℕ → ℕ → ℕ
pad_count k n = (n + (k - 1)) / k * k

-- each page below, then blanks
abbrev pub pad_shows : Meaning → ℕ → Parts
pad_shows m p = cond (has m p) (whole p ∷ []) []

abbrev pub pad_objects : ℕ → Meaning → Option Objection
pad_objects k m =
    cond (nat_le 1 k && nat_le k max_multiple)
    (cond (nat_le (pad_count k m.pages) max_pages) None (Some (objection TooMany 0)))
    (Some (objection BadOrder 0))

-- an order of k leads to an extent
pub record PadTaken (k : ℕ) (m : Meaning) (x : Extent) : Type 0 where
  pub size : x.size ≡ size_of m
  pub pages : x.pages ≡ pad_count k m.pages
  pub below : Below (pad_shows m) x.pages m
