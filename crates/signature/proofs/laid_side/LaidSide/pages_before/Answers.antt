use Rattle.std.proofs.Common.{arith}
use Rattle.signature.proofs.Grids.{takes_at, before_few}
use Rattle.signature.proofs.laid_side.LaidSide.pages_before.Goals as goal

pub overflow_mul-result : goal.overflow_mul-result
overflow_mul-result c =
    let s = c.args.self in
    let t = takes_at s.signature c.sheets.result c.pages.result c.sheets.ensures c.pages.ensures in
    omega (arith, before_few c.sheets_before.result c.sheets.result c.pages.result (omega (arith, c.sheets_before.ensures, s.within)) t.most)

pub returns-clause-few : goal.returns-clause-few
returns-clause-few c =
    let s = c.args.self in
    let t = takes_at s.signature c.sheets.result c.pages.result c.sheets.ensures c.pages.ensures in
    before_few c.sheets_before.result c.sheets.result c.pages.result (omega (arith, c.sheets_before.ensures, s.within)) t.most
