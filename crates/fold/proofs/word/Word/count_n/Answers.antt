use Rattle.std.proofs.Common.{sym, arith}
use lib.Count.{ones-le}
use Rattle.fold.proofs.Masks.{count_ones}
use Rattle.fold.proofs.word.Word.count_n.Goals as goal

pub returns : goal.returns
returns c =
    let w = c.args.self.now in
    (sym (count_ones w.len w.mask w.within), omega (arith, ones-le w.len w.mask w.within, w.lettered.1))
