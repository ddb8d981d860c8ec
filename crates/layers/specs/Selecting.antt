-- The Select layer: ranges of pages, one after another.
use Rattle.std.specs.Prelude.{◌≡◌, ℕ, zero, suc, ◌+◌, ◌-◌, Bool, cond, not, ◌&&◌, List, [], ◌∷◌, ◌++◌, length, Some, None, Option, ◌==◌, nat_le, nat_lt, slice_index}
use Rattle.std.specs.List.{find, flat_map, range_with_len}
use Rattle.pages.specs.Limits.{max_pages}
use Rattle.pages.specs.Meaning.{Meaning, size_of}
use Rattle.pages.specs.declared.faults.Refusal.TheVariants.{BadOrder, NoSuch, TooMany}
use Rattle.layers.specs.Layering.{Parts, Below, whole}
use Rattle.layers.specs.Orders.{objection}
use Rattle.layers.specs.declared.extent.Extent.{Extent}
use Rattle.layers.specs.declared.parts.Objection.{Objection}
use Rattle.layers.specs.declared.ranges.Range.{Range}

-- the ranges that a layer may have
abbrev pub max_ranges : ℕ
max_ranges = 64

-- n pages from a down: a, a − 1, ..
abbrev pub counting_down : ℕ → ℕ → List ℕ
counting_down a zero = []
counting_down a (suc n) = a ∷ counting_down (a - 1) n

-- The pages of a range: a, a + 1, .. b, or a, a − 1, .. b. Page 0 stands for a blank, so (0, 0) is one blank.
abbrev pub pages_of : Range → List ℕ
pages_of r = cond (nat_le r.first r.last) (range_with_len r.first (r.last - r.first + 1)) (counting_down r.first (r.first - r.last + 1))

abbrev pub all_pages_of : List Range → List ℕ
all_pages_of = flat_map pages_of

-- of n pages, those that are selected; with no range so far, all
abbrev pub selected : List Range → ℕ → List ℕ
selected [] n = range_with_len 1 n
selected (r ∷ rs) n = all_pages_of (r ∷ rs)

-- the page of a number; none of 0, a blank
abbrev pub unless_blank : ℕ → Option ℕ
unless_blank zero = None
unless_blank (suc q) = Some (suc q)

-- a page below, or a blank
abbrev pub page_or_blank : ℕ → Parts
page_or_blank zero = []
page_or_blank (suc q) = whole (suc q) ∷ []

abbrev pub select_shows : List Range → Meaning → ℕ → Parts
select_shows rs m p = page_or_blank (slice_index (selected rs m.pages) (p - 1))

-- one end is zero alone
abbrev pub half_blank : Range → Bool
half_blank r = cond (r.first == 0) (not (r.last == 0)) (r.last == 0)

-- the first end past n pages
abbrev pub missing : List Range → ℕ → Option ℕ
missing rs n = find (λ e. nat_lt n e) (flat_map (λ r. r.first ∷ r.last ∷ []) rs)

-- what is objected to ranges over n pages: an end that is not there, then too many ranges, or too many pages
abbrev pub ranges_object : Option ℕ → ℕ → ℕ → Option Objection
ranges_object (Some q) ranges pages = Some (objection NoSuch q)
ranges_object None ranges pages = cond (nat_le ranges max_ranges && nat_le pages max_pages) None (Some (objection TooMany 0))

-- a range is added to those so far, and the checks are over all of them
abbrev pub select_objects : List Range → Range → Meaning → Option Objection
select_objects rs r m =
    cond (half_blank r) (Some (objection BadOrder 0)) (ranges_object (missing (rs ++ r ∷ []) m.pages) (length (rs ++ r ∷ [])) (length (all_pages_of (rs ++ r ∷ []))))

-- the range r added to the ranges rs leads to the ranges qs, and to an extent
pub record SelectTaken (rs : List Range) (r : Range) (m : Meaning) (qs : List Range) (x : Extent) : Type 0 where
  pub added : qs ≡ rs ++ r ∷ []
  pub size : x.size ≡ size_of m
  pub pages : x.pages ≡ length (selected qs m.pages)
  pub below : Below (select_shows qs m) x.pages m

-- before the first order: all pages
pub record SelectStarts (m : Meaning) (rs : List Range) (x : Extent) : Type 0 where
  pub none : rs ≡ []
  pub size : x.size ≡ size_of m
  pub pages : x.pages ≡ m.pages
  pub below : Below (select_shows rs m) x.pages m
