use Rattle.std.proofs.Common.{◌≡◌, get_or, Some, sym, ap, ◌∙◌, arith}
use Rattle.std.proofs.lemmas.Bool.{cond-true, eq-eqb, and_from}
use Rattle.std.proofs.lemmas.List.{take_rest}
use Rattle.dsc.proofs.comments.marked.Goals as goal

pub returns-in-37 : goal.returns-in-37
returns-in-37 c =
    let t = c.args.text.now in
    let a : get_or t 0 0 ≡ 37 = omega arith in
    let b : get_or t 1 0 ≡ 37 = omega arith in
    ap (λ l. Some l) (take_rest t 2) ∙ sym (cond-true _ _ _ (and_from _ _ (eq-eqb _ _ a) (eq-eqb _ _ b)))
