use Rattle.std.proofs.Common.{arith}
use Rattle.layers.proofs.Selecting.{span_up, span_down, page_up, page_down}
use Rattle.layers.proofs.ranges.Range.page.Goals as goal

pub overflow_cast-result : goal.overflow_cast-result
overflow_cast-result c = omega (arith, span_up c.args.self c.if-self.true, c.requires)

pub overflow_add-result : goal.overflow_add-result
overflow_add-result c = omega (arith, span_up c.args.self c.if-self.true, c.requires)

pub overflow_cast-result-else-self : goal.overflow_cast-result-else-self
overflow_cast-result-else-self c = omega (arith, span_down c.args.self c.if-self.false, c.requires)

pub overflow_sub-result : goal.overflow_sub-result
overflow_sub-result c = omega (arith, span_down c.args.self c.if-self.false, c.requires)

pub returns-then-self : goal.returns-then-self
returns-then-self c = page_up c.args.self c.if-self.true c.args.index c.requires

pub returns-else-self : goal.returns-else-self
returns-else-self c = page_down c.args.self c.if-self.false c.args.index c.requires
