use Rattle.std.proofs.Common.{◌^◌, ◌<◌, length, ap, arith, rules}
use Rattle.sides.proofs.Placing.{page_line_short}
use Rattle.sides.proofs.texts.frame_length.Goals as goal

pub overflow_add-result : goal.overflow_add-result
overflow_add-result c =
    let t : c.args.side < 2 ^ 64 = search rules in
    omega (arith, c.measure.ensures, page_line_short c.args.side t, ap length c.page_line.ensures)

pub returns : goal.returns
returns c =
    let t : c.args.side < 2 ^ 64 = search rules in
    let s = page_line_short c.args.side t in
    let e = ap length c.page_line.ensures in
    record { all = omega (arith, c.measure.ensures); few = omega (arith, c.measure.ensures) }
