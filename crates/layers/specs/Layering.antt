-- What a layer means: each of its pages is made of parts, and each part shows a page below, followed by a map.
use Rattle.std.specs.Prelude.{◌≡◌, ℕ, ◌+◌, ◌<◌, ◌≤◌, min, Bool, true, false, cond, ◌⊎◌, List, [], map, length, take, is_some}
use Rattle.std.specs.List.{flat_map, list_all}
use Rattle.std.specs.Option.{unwrap_or}
use Rattle.pages.specs.Limits.{max_placements, max_depth}
use Rattle.pages.specs.Maps.{identity, followed, composed}
use Rattle.pages.specs.Meaning.{Meaning, has, fault}
use Rattle.pages.specs.declared.maps.Map.{Map}
use Rattle.pages.specs.declared.maps.Placement.{Placement}
use Rattle.pages.specs.declared.faults.Fault.{Fault}
use Rattle.pages.specs.declared.faults.Refusal.TheVariants.{Crowded, TooFar}
use Rattle.layers.specs.declared.extent.Extent.{Extent}
use Rattle.layers.specs.declared.parts.Part.{Part}

abbrev pub Parts : Type 0
Parts = List Part

-- a page below as it is
abbrev pub whole : ℕ → Part
whole q = record { page = q; map = identity }

-- the parts that one page may have
abbrev pub max_parts : ℕ
max_parts = 64

-- the depth of a layer over m: one more, staying at the greatest
abbrev pub deeper : Meaning → ℕ
deeper m = min (m.depth + 1) max_depth

-- A layer's type cannot say that its order was accepted over what lies below, so its meaning is total: a map that
-- would leave its bounds is not applied, a page that is not below shows nothing, and placements past the last that a
-- page may have are not shown. `Exact` says that none of this happens; it is promised of every layer that is made or
-- ordered.

abbrev pub moved : Map → Placement → Placement
moved t p = record { leaf = p.leaf; map = unwrap_or (composed p.map t) p.map }

-- the placements of a page; of a page that there is not, none
abbrev pub placed : Meaning → ℕ → List Placement
placed m q = cond (has m q) (m.page q) []

abbrev pub part_shown : Meaning → Part → List Placement
part_shown m x = map (moved x.map) (placed m x.page)

-- the parts one after another
abbrev pub shown : Meaning → Parts → List Placement
shown m = flat_map (part_shown m)

-- the meaning of a layer over m, where page p has the parts `show p`
abbrev pub layered : (ℕ → Parts) → Extent → Meaning → Meaning
layered show x m = record {
  width = x.size.width;
  height = x.size.height;
  leaves = m.leaves;
  ink = m.ink;
  pages = x.pages;
  page = λ p. take max_placements (shown m (show p));
  depth = deeper m;
}

-- each placement keeps the bounds when it is followed by the map
abbrev pub all_follow : Map → List Placement → Bool
all_follow t = list_all (λ p. is_some (composed p.map t))

abbrev pub part_follows : Meaning → Part → Bool
part_follows m x = all_follow x.map (placed m x.page)

abbrev pub parts_follow : Meaning → Parts → Bool
parts_follow m = list_all (part_follows m)

-- each page of n passes a test
abbrev pub EachPage : ℕ → (ℕ → Type 0) → Type 0
EachPage n Passes = (p : ℕ) → 1 ≤ p → p ≤ n → Passes p

-- p is the first page of n that fails a test
pub record FirstPage (n : ℕ) (Passes Fails : ℕ → Type 0) (p : ℕ) : Type 0 where
  pub page : (1 ≤ p) × (p ≤ n)
  pub fails : Fails p
  pub before : (k : ℕ) → 1 ≤ k → k < p → Passes k

-- no page of n has too many placements
abbrev pub Roomy : (ℕ → Parts) → ℕ → Meaning → Type 0
Roomy show n m = EachPage n (λ p. length (shown m (show p)) ≤ max_placements)

-- no map on a page of n leaves its bounds
abbrev pub Near : (ℕ → Parts) → ℕ → Meaning → Type 0
Near show n m = EachPage n (λ p. parts_follow m (show p) ≡ true)

-- p is the first page with too many placements
abbrev pub FirstCrowded : (ℕ → Parts) → ℕ → Meaning → ℕ → Type 0
FirstCrowded show n m = FirstPage n (λ p. length (shown m (show p)) ≤ max_placements) (λ p. max_placements < length (shown m (show p)))

-- p is the first page with a map that leaves its bounds
abbrev pub FirstFar : (ℕ → Parts) → ℕ → Meaning → ℕ → Type 0
FirstFar show n m = FirstPage n (λ p. parts_follow m (show p) ≡ true) (λ p. parts_follow m (show p) ≡ false)

-- why pages cannot be laid so: CROWDED before TOO FAR, each over all pages and with the first page concerned
abbrev pub Barred : (ℕ → Parts) → ℕ → Meaning → Fault → Type 0
Barred show n m e =
    (FirstCrowded show n m e.page × (e ≡ fault Crowded (deeper m) e.page))
    ⊎ (Roomy show n m × FirstFar show n m e.page × (e ≡ fault TooFar (deeper m) e.page))

-- each placement followed by the map, as the rule has it
abbrev pub followed_by : Map → Placement → Placement
followed_by t p = record { leaf = p.leaf; map = followed p.map t }

abbrev pub part_exactly : Meaning → Part → List Placement
part_exactly m x = map (followed_by x.map) (placed m x.page)

abbrev pub exactly : Meaning → Parts → List Placement
exactly m = flat_map (part_exactly m)

-- every page of n shows the placements of its parts, each followed by its part's map: nothing is cut and nothing left out
pub record Exact (show : ℕ → Parts) (n : ℕ) (m : Meaning) : Type 0 where
  pub few : (p : ℕ) → 1 ≤ p → p ≤ n → length (exactly m (show p)) ≤ max_placements
  pub near : Near show n m
  pub all : (p : ℕ) → 1 ≤ p → p ≤ n → take max_placements (shown m (show p)) ≡ exactly m (show p)

-- the parts name pages that there are below
abbrev pub all_below : Meaning → Parts → Bool
all_below m = list_all (λ x. has m x.page)

abbrev pub Below : (ℕ → Parts) → ℕ → Meaning → Type 0
Below show n m = (p : ℕ) → 1 ≤ p → p ≤ n → all_below m (show p) ≡ true
