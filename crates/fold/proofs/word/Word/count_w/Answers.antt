use Rattle.std.proofs.Common.{arith}
use Rattle.fold.specs.Spelled.{spelled}
use Rattle.fold.proofs.Masks.{count-all, length-letters}
use Rattle.fold.proofs.word.Word.count_w.Goals as goal

pub overflow_sub-result : goal.overflow_sub-result
overflow_sub-result c =
    let w = c.args.self.now in
    omega (arith, c.count_n.ensures.0, count-all (spelled w), length-letters w.len w.mask)

pub returns : goal.returns
returns c =
    let w = c.args.self.now in
    let all = length-letters w.len w.mask in (
      omega (arith, c.count_n.ensures.0, count-all (spelled w), all),
      omega (arith, w.lettered.1),
    )
