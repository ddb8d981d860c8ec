use Rattle.std.proofs.Common.{◌≡◌, get_or, sym, ◌∙◌, arith, ltb-false, ltb-true}
use Rattle.std.proofs.lemmas.List.{get_or_past}
use Rattle.dsc.proofs.Spans.{trim_more, trim_stop}
use Rattle.dsc.proofs.values.trimmed.Goals as goal

pub loop-left-preserved : goal.loop-left-preserved
loop-left-preserved c = trim_more c.loop-left.left.now (omega (arith, ltb-false)) (omega arith) ∙ c.loop-left.invariant

pub returns-in_default : goal.returns-in_default
returns-in_default c =
    let none : get_or c.loop-left.left.now 0 0 ≡ 0 = get_or_past c.loop-left.left.now 0 0 (omega (arith, ltb-true)) in
    sym (trim_stop c.loop-left.left.now (λ e. omega arith)) ∙ c.loop-left.invariant

pub returns-in_default-2 : goal.returns-in_default-2
returns-in_default-2 c = sym (trim_stop c.loop-left.left.now (λ e. omega arith)) ∙ c.loop-left.invariant
