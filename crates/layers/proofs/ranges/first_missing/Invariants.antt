use Rattle.std.proofs.Common.{◌≡◌, drop}
use Rattle.layers.specs.Selecting.{missing}
use Rattle.layers.proofs.ranges.first_missing.Given as goal

abbrev pub invariant-loop-range : goal.invariant-loop-range
invariant-loop-range l = missing l.ranges l.pages ≡ missing (drop l.range-index l.ranges) l.pages
