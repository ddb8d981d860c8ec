use Rattle.std.proofs.Common.{◌≡◌, ◌++◌, Some, Ok, Decides, rules}
use Rattle.dsc.specs.Readings.{numbers, Gives}
use Rattle.dsc.proofs.Came.{came_on, came_leaf}
use Rattle.dsc.proofs.Pairs.{pair_next}
use Rattle.dsc.proofs.reading.Opened.verify.Goals as goal

pub loop-ink-preserved : goal.loop-ink-preserved
loop-ink-preserved c =
    let inv = c.loop-ink.invariant in
    let xs = inv.0 in
    let file = c.args.self.now.file.now in
    let v = c.loop-ink.reading in
    let w = c.next.new.self in
    let ink = c.in_ok-ink.ink in
    let steps : Gives v (Some (Ok ink)) w = rw c.in_ok-ink.was at c.in-Some.ensures.steps in
    let equal : Decides c.eq-same.result (c.at.result ≡ Some ink.span) = search rules in
    (xs ++ numbers ink, came_on file xs v w inv.1 ink steps, pair_next c.args.index.now xs ink.leaf ink.span c.loop-ink.same c.eq-same.result c.at.result (came_leaf file xs v w inv.1 ink steps) inv.2 c.at.ensures equal)
