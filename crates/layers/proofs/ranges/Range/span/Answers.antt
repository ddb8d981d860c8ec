use Rattle.std.proofs.Common.{sym, arith}
use Rattle.layers.proofs.Selecting.{span_up, span_down}
use Rattle.layers.proofs.ranges.Range.span.Goals as goal

pub returns-then-self : goal.returns-then-self
returns-then-self c = record { all = sym (span_up c.args.self c.if-self.true); few = omega arith }

pub returns : goal.returns
returns c = record { all = sym (span_down c.args.self c.if-self.false); few = omega arith }
