-- What layers do, in the words of one who orders them.
use Rattle.std.specs.Prelude.{◌≡◌, ℕ, ◌%◌, ◌<◌, ◌≤◌, [], ◌∷◌, length}
use Rattle.pages.specs.Limits.{max_turn}
use Rattle.pages.specs.Maps.{followed}
use Rattle.pages.specs.Meaning.{Meaning, Lawful, size_of}
use Rattle.pages.specs.declared.maps.Map.{Map}
use Rattle.layers.specs.Layering.{layered, Exact}
use Rattle.layers.specs.Padding.{pad_count, pad_shows}
use Rattle.layers.specs.Selecting.{selected, select_shows}
use Rattle.layers.specs.Turning.{TurnTaken, turn_map, turn_shows}
use Rattle.layers.specs.declared.extent.Extent.{Extent}
use Rattle.layers.specs.declared.ranges.Range.{Range}

-- the same pages in the same order
pub record SamePages (a b : Meaning) : Type 0 where
  pub number : a.pages ≡ b.pages
  pub each : (p : ℕ) → 1 ≤ p → p ≤ b.pages → a.page p ≡ b.page p

abbrev pub range : ℕ → ℕ → Range
range a b = record { first = a; last = b }

-- a Select of (1, P) over P pages shows what is below
abbrev pub SelectAll : Type 0
SelectAll = (m : Meaning) → Lawful m → 1 ≤ m.pages → (x : Extent) → x.pages ≡ length (selected (range 1 m.pages ∷ []) m.pages)
    → SamePages (layered (select_shows (range 1 m.pages ∷ []) m) x m) m

-- n is the least multiple of k from `from` on
pub record LeastMultiple (k from n : ℕ) : Type 0 where
  pub multiple : n % k ≡ 0
  pub enough : from ≤ n
  pub least : (c : ℕ) → c % k ≡ 0 → from ≤ c → n ≤ c

-- Pad keeps every page, all pages after them are blank, and it has the least multiple of pages
pub record PadKeeps : Type 0 where
  pub kept : (m : Meaning) → Lawful m → (x : Extent) (p : ℕ) → 1 ≤ p → p ≤ m.pages → (layered (pad_shows m) x m).page p ≡ m.page p
  pub blank : (m : Meaning) (x : Extent) (p : ℕ) → m.pages < p → (layered (pad_shows m) x m).page p ≡ []
  pub count : (k n : ℕ) → 1 ≤ k → LeastMultiple k n (pad_count k n)

-- four turns of one quarter, on pages of w by h
abbrev pub four_turns : Map → ℕ → ℕ → Map
four_turns t w h = followed (followed (followed (followed t (turn_map 1 w h)) (turn_map 1 h w)) (turn_map 1 w h)) (turn_map 1 h w)

-- a Turn of one quarter over m, accepted
pub record TurnedOnce (m : Meaning) (x : Extent) : Type 0 where
  pub taken : TurnTaken 1 m 1 x
  pub exact : Exact (turn_shows 1 m) x.pages m

abbrev pub turned_once : Meaning → Extent → Meaning
turned_once m x = layered (turn_shows 1 m) x m

-- four turns leave every map as it is, and so a pile of four Turns shows what is below
pub record FourTurnsAreNone : Type 0 where
  pub maps : (t : Map) → t.turn ≤ max_turn → (w h : ℕ) → four_turns t w h ≡ t
  pub layers : (m : Meaning) → Lawful m → (a b c d : Extent)
      → TurnedOnce m a → TurnedOnce (turned_once m a) b → TurnedOnce (turned_once (turned_once m a) b) c → TurnedOnce (turned_once (turned_once (turned_once m a) b) c) d
      → (d.size ≡ size_of m) × SamePages (turned_once (turned_once (turned_once (turned_once m a) b) c) d) m
