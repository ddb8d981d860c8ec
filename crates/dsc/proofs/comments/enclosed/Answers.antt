use Rattle.std.proofs.Common.{sym, ◌∙◌, arith}
use Rattle.dsc.proofs.Labels.{paren_none, paren_some}
use Rattle.dsc.proofs.comments.enclosed.Goals as goal

pub returns-in_err-end : goal.returns-in_err-end
returns-in_err-end c = rw c.from_residual.ensures (paren_none c.args.s.now (sym c.find.ensures ∙ c.in_err-end.was))

pub returns : goal.returns
returns c =
    let e = paren_some c.args.s.now c.in_ok-end.end (sym c.find.ensures ∙ c.in_ok-end.was) in
    rw e (omega arith, c.split_at.ensures.front, c.split_at.ensures.back)
