use Rattle.std.proofs.Common.{◌+◌, ◌*◌, ◌<◌, length, arith}
use Rattle.dsc.proofs.Indexed.{held_long}
use Rattle.dsc.proofs.Pairs.{found_at}
use Rattle.dsc.proofs.reader.Dsc.span.Goals as goal

pub returns : goal.returns
returns c =
    let d = c.args.self.now in
    let long : 2 * c.args.leaf + 1 < length d.index.now = omega (arith, held_long d.file.now d.index.now d.held, d.counted, c.if-leaf-self.false) in
    let found = found_at c.at.result d.index.now c.args.leaf c.at.ensures long in
    rw (c.ok_or.ensures.value, found.1) (omega (arith, c.if-leaf-self.false), found.2, found.3)
