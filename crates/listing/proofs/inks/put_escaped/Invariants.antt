use Rattle.std.proofs.Common.{◌≡◌, ℕ, List, ◌++◌, drop}
use Rattle.text.specs.Writes.{Wrote}
use Rattle.listing.specs.Inks.{escaped}
use Rattle.listing.proofs.inks.put_escaped.Given as goal

-- what was written, and what is left of the line
abbrev pub invariant-loop-b : goal.invariant-loop-b
invariant-loop-b l = (xs : List ℕ) × Wrote l.initial.buffer l.initial.end xs l.buffer l.end × (xs ++ escaped (drop l.b-index l.line) ≡ escaped l.line)
