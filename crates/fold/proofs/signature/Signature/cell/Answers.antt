use Rattle.std.proofs.Common.{◌^◌, ◌≤◌, sym, ◌∙◌, arith, pow_mono}
use Rattle.std.proofs.lemmas.Bool.{and_parts}
use Rattle.std.proofs.lemmas.Nat.{mul-le}
use Rattle.fold.specs.Spelled.{spelled}
use Rattle.fold.specs.Words.{count_w}
use Rattle.fold.proofs.Masks.{count-all, length-letters}
use Rattle.fold.proofs.Places.{within}
use Rattle.fold.proofs.signature.Signature.cell.Goals as goal

pub overflow_add-column : goal.overflow_add-column
overflow_add-column c =
    let w = c.args.self.now.word in
    let few : count_w (spelled w) ≤ 4 = omega (arith, count-all (spelled w), length-letters w.len w.mask, w.lettered.1) in
    let small : 2 ^ count_w (spelled w) ≤ 2 ^ 4 = pow_mono few in
    omega (arith, c.columns-columns.ensures)

pub walk-requires : goal.walk-requires
walk-requires c =
    let g = c.args.self.now in
    let short : g.word.len ≤ 4 = g.word.lettered.1 in
    let small : 2 ^ g.word.len ≤ 2 ^ 4 = pow_mono short in
    let sheet = within g.sheets c.args.at.sheet (and_parts _ _ (sym c.has.ensures ∙ c.if-not-has.false)).0 in (
      omega (arith, sheet),
      omega (arith, sheet),
      mul-le g.sheets (2 ^ g.word.len) 16 16 g.thickness.1 small,
      omega arith,
      omega arith,
    )
