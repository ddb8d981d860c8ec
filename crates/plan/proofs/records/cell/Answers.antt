use Rattle.std.proofs.Common.{◌-◌, ◌/◌, arith}
use Rattle.std.proofs.lemmas.Nat.{mod_below}
use Rattle.fold.specs.Signatures.{letters_of}
use Rattle.signature.proofs.Grids.{takes}
use Rattle.signature.proofs.Positions.{cell_page}
use Rattle.plan.proofs.records.cell.Goals as goal

pub overflow_add-result : goal.overflow_add-result
overflow_add-result c =
    let s = c.args.signature.now in
    let k = s.thickness in
    let e = c.sheets-sheets.ensures in
    let f = mod_below ((c.args.side - 1) / 2) c.sheets-sheets.result (omega arith) in
    let g = cell_page (letters_of s) s.sheets _ c.in_ok-shown.shown (omega arith) (omega arith) c.in_ok-shown.ensures in
    omega (arith, (takes s).most, c.pages_of.ensures.few)
