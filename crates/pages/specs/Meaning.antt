-- What a page source means, what makes it lawful, and the answer to each question.
use Rattle.std.specs.Prelude.{◌≡◌, ℕ, zero, suc, ◌+◌, ◌≤◌, Bool, true, cond, ◌&&◌, List, [], ◌∷◌, length, None, Ok, Err, Option, Result, nat_le}
use Rattle.std.specs.Option.{ok_or}
use Rattle.std.specs.List.{slice_get}
use Rattle.pages.specs.Limits.{max_side, max_leaves, max_pages, max_placements, max_ink, max_depth}
use Rattle.pages.specs.Maps.{fits}
use Rattle.pages.specs.Inks.{Ink}
use Rattle.pages.specs.Splice.{splice}
use Rattle.pages.specs.declared.maps.Size.{Size}
use Rattle.pages.specs.declared.maps.Placement.{Placement}
use Rattle.pages.specs.declared.faults.Fault.{Fault}
use Rattle.pages.specs.declared.faults.Refusal.{Refusal}
use Rattle.pages.specs.declared.faults.Refusal.TheVariants.{NoSuch, ShortBuffer}

-- A leaf is a numbered piece of a document, and its ink the PostScript that draws it; leaf 0 is the preamble.
-- Pages count from 1, and each is a list of placements of leaves; the empty list is a blank page.
-- Depth is 1 for a reader and one more for each layer above it.
-- Only the inks of leaves 0 to `leaves` and the pages 1 to `pages` count.
pub record Meaning : Type 0 where
  pub width : ℕ
  pub height : ℕ
  pub leaves : ℕ
  pub ink : ℕ → List ℕ
  pub pages : ℕ
  pub page : ℕ → List Placement
  pub depth : ℕ

-- a placement of one of the leaves 1 to n, with a map in its bounds
abbrev pub sound : ℕ → Placement → Bool
sound n p = nat_le 1 p.leaf && nat_le p.leaf n && fits p.map

abbrev pub all_sound : ℕ → List Placement → Bool
all_sound n [] = true
all_sound n (p ∷ ps) = sound n p && all_sound n ps

-- what every source keeps
pub record Lawful (m : Meaning) : Type 0 where
  pub wide : (1 ≤ m.width) × (m.width ≤ max_side)
  pub high : (1 ≤ m.height) × (m.height ≤ max_side)
  pub leafy : m.leaves ≤ max_leaves
  pub paged : m.pages ≤ max_pages
  pub deep : (1 ≤ m.depth) × (m.depth ≤ max_depth)
  pub inked : (leaf : ℕ) → leaf ≤ m.leaves → length (m.ink leaf) ≤ max_ink
  pub formed : (leaf : ℕ) → leaf ≤ m.leaves → Ink (m.ink leaf)
  pub laid : (p : ℕ) → 1 ≤ p → p ≤ m.pages → length (m.page p) ≤ max_placements
  pub placed : (p : ℕ) → 1 ≤ p → p ≤ m.pages → all_sound m.leaves (m.page p) ≡ true

-- a fault with offset 0
abbrev pub fault : Refusal → ℕ → ℕ → Fault
fault k l p = record { kind = k; layer = l; page = p; offset = 0 }

abbrev pub size_of : Meaning → Size
size_of m = record { width = m.width; height = m.height }

-- whether p is a page
abbrev pub has : Meaning → ℕ → Bool
has m p = nat_le 1 p && nat_le p m.pages

-- how many placements page p has
abbrev pub laid_at : Meaning → ℕ → Result ℕ Fault
laid_at m p = cond (has m p) (Ok (length (m.page p))) (Err (fault NoSuch m.depth p))

-- the placement in a slot; slots count from 1
abbrev pub slot_at : List Placement → ℕ → Option Placement
slot_at ps zero = None
slot_at ps (suc i) = slice_get ps i

abbrev pub place_at : Meaning → ℕ → ℕ → Result Placement Fault
place_at m p s = cond (has m p) (ok_or (slot_at (m.page p) s) (fault NoSuch m.depth p)) (Err (fault NoSuch m.depth p))

abbrev pub length_at : Meaning → ℕ → Result ℕ Fault
length_at m l = cond (nat_le l m.leaves) (Ok (length (m.ink l))) (Err (fault NoSuch 1 l))

-- the place after items that are written from place i of a buffer of n items
abbrev pub end_at : {X : Type 0} → List X → ℕ → ℕ → Result ℕ Fault
end_at xs n i = cond (nat_le (i + length xs) n) (Ok (i + length xs)) (Err (fault ShortBuffer 1 0))

-- what the buffer then holds
abbrev pub written : {X : Type 0} → List X → List X → ℕ → List X
written xs b i = cond (nat_le (i + length xs) (length b)) (splice b i xs) b

-- what pour answers, with a buffer of n bytes
abbrev pub pour_at : Meaning → ℕ → ℕ → ℕ → Result ℕ Fault
pour_at m l n i = cond (nat_le l m.leaves) (end_at (m.ink l) n i) (Err (fault NoSuch 1 l))

-- what the buffer then holds
abbrev pub poured : Meaning → ℕ → List ℕ → ℕ → List ℕ
poured m l b i = cond (nat_le l m.leaves) (written (m.ink l) b i) b
