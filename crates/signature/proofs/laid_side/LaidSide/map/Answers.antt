use Rattle.std.proofs.Common.{◌-◌, arith}
use Rattle.std.proofs.lemmas.Nat.{mul-le}
use Rattle.signature.proofs.Grids.{grid}
use Rattle.signature.proofs.laid_side.LaidSide.map.Goals as goal

pub overflow_mul-y : goal.overflow_mul-y
overflow_mul-y c =
    let s = c.args.self in
    omega (arith, (grid s.signature).high.1, c.rows.ensures, s.bounded.1, mul-le (c.rows.result - c.args.at.row) s.size.height 16 20000 (omega (arith, (grid s.signature).high.1, c.rows.ensures)) s.bounded.1)

pub overflow_add-result-in-Turned : goal.overflow_add-result-in-Turned
overflow_add-result-in-Turned c =
    let s = c.args.self in
    omega (arith, (grid s.signature).high.1, c.rows.ensures, s.bounded.1, mul-le (c.rows.result - c.args.at.row) s.size.height 16 20000 (omega (arith, (grid s.signature).high.1, c.rows.ensures)) s.bounded.1)
