use Rattle.std.proofs.Common.{◌≡◌, ◌≤◌, length, take, count_by}
use Rattle.listing.specs.Inks.{special}
use Rattle.listing.proofs.inks.count_special.Given as goal

abbrev pub invariant-loop-b : goal.invariant-loop-b
invariant-loop-b l = (l.b-index ≤ length l.line) × (l.count ≡ count_by special (take l.b-index l.line))
