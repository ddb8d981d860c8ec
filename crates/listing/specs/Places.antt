-- Where each byte of a listing stands, and which bytes may stand there.
use Rattle.std.specs.Prelude.{ℕ, ◌+◌, ◌≤◌, Bool, true, false, cond, not, ◌&&◌, ◌||◌, List, [], ◌∷◌, Some, None, Option, ◌==◌, nat_le}
use Rattle.pages.specs.Limits.{max_pages}
use Rattle.pages.specs.declared.faults.Fault.{Fault}
use Rattle.pages.specs.declared.faults.Refusal.{Refusal}
use Rattle.pages.specs.declared.faults.Refusal.TheVariants.{BadByte, TooMany, TooLong}
use Rattle.listing.specs.declared.places.Place.{Place}

abbrev pub line_feed : ℕ
line_feed = 10

abbrev pub form_feed : ℕ
form_feed = 12

-- Lines on a page, and bytes on a line.
abbrev pub max_lines : ℕ
max_lines = 66

abbrev pub max_columns : ℕ
max_columns = 132

-- Blank to tilde, line feed and form feed.
abbrev pub allowed : ℕ → Bool
allowed b = (nat_le 32 b && nat_le b 126) || (b == line_feed || b == form_feed)

-- Where the first byte stands.
abbrev pub top : Place
top = record { page = 1; line = 1; column = 1 }

-- Where the byte after b stands.
abbrev pub after : Place → ℕ → Place
after p b =
    cond (b == form_feed) (record { page = p.page + 1; line = 1; column = 1 })
    (cond (b == line_feed) (record { page = p.page; line = p.line + 1; column = 1 })
    (record { page = p.page; line = p.line; column = p.column + 1 }))

-- A byte of a line too many, or of a line that is full. A form feed or a line feed that ends a line is no byte of it,
-- but a line feed makes a line.
abbrev pub too_long : Place → ℕ → Bool
too_long p b = cond (b == form_feed) false (cond (nat_le p.line max_lines) (cond (b == line_feed) false (not (nat_le p.column max_columns))) true)

-- Why byte b cannot stand at a place.
abbrev pub fault_at : Place → ℕ → Option Refusal
fault_at p b = cond (allowed b) (cond (nat_le p.page max_pages) (cond (too_long p b) (Some TooLong) None) (Some TooMany)) (Some BadByte)

-- The first byte that cannot stand where it stands: its page and its offset.
abbrev pub or_fault : Option Refusal → Place → ℕ → Option Fault → Option Fault
or_fault None p at rest = rest
or_fault (Some k) p at rest = Some (record { kind = k; layer = 1; page = p.page; offset = at })

abbrev pub refusal : Place → ℕ → List ℕ → Option Fault
refusal p at [] = None
refusal p at (b ∷ bs) = or_fault (fault_at p b) p at (refusal (after p b) (at + 1) bs)

-- The numbers of a place while no byte is refused.
abbrev pub Within : Place → Type 0
Within p = (p.page ≤ 4097) × (p.line ≤ 67) × (p.column ≤ 133)
