use Rattle.std.proofs.Common.{◌≡◌, ℕ, true, List, ◌++◌}
use Rattle.listing.specs.Inks.{shown_lines}
use Rattle.listing.specs.Pages.{cut}
use Rattle.listing.proofs.inks.put_ink.Given as goal

-- the lines that were put, and those that are left
abbrev pub invariant-loop-i : goal.invariant-loop-i
invariant-loop-i g l =
    (xs : List ℕ) × g.O.Sink.takes l.initial.out xs true l.out
    × (xs ++ shown_lines l.i-iterator.count (cut l.i-iterator.iter.separator l.i-iterator.iter.rest.now) ≡ shown_lines 0 (cut 10 l.page))
