use Rattle.std.proofs.Common.{◌≡◌, length}
use Rattle.dsc.specs.Values.{trim}
use Rattle.dsc.proofs.values.trimmed.Given as goal

abbrev pub invariant-loop-left : goal.invariant-loop-left
invariant-loop-left l = trim l.left ≡ trim l.s

abbrev pub decreases-loop-left : goal.decreases-loop-left
decreases-loop-left l = length l.left
