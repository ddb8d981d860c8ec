use Rattle.std.proofs.Common.{◌≡◌, ◌++◌}
use Rattle.signature.specs.Imposing.{impose_shows}
use Rattle.job.proofs.texts.SideText.of.Given as goal

-- the positions that were taken, and then those that are left, are the side's
abbrev pub invariant-loop-position : goal.invariant-loop-position
invariant-loop-position g l = l.positions.items ++ l.position-iterator ≡ impose_shows l.layer.rule.signature (g.S.Source.meaning l.layer.below) l.side
