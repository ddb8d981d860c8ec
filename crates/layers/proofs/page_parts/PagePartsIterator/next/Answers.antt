use Rattle.std.proofs.Common.{rules, arith}
use Rattle.layers.proofs.Slots.{next_part}
use Rattle.layers.proofs.page_parts.PagePartsIterator.next.Goals as goal

pub returns-clause-steps : goal.returns-clause-steps
returns-clause-steps g c =
    let s = c.self.inside in
    let xs = g.R.Rule.shows s.rule.now (g.S.Source.meaning s.below.now) s.page in
    let i = c.self.invariant in
    let n = c.in_ok-index.ensures.steps in
    let e = next_part xs c.in_ok-index.index (omega arith) c.part.result c.part.ensures in
    let v = c.self.view_is in
    search rules
