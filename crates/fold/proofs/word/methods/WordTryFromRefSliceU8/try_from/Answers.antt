use Rattle.std.proofs.Common.{◌+◌, sym, ◌∙◌, arith}
use Rattle.fold.proofs.Spelling.{refused, no_letter, length-others, at_later}
use Rattle.fold.proofs.word.methods.WordTryFromRefSliceU8.try_from.Goals as goal

pub returns-in_err-try_from : goal.returns-in_err-try_from
returns-in_err-try_from c =
    refused _ _ c.from_residual.ensures.0 (no_letter c.args.text.now 0 (omega (arith, c.in-len1-up.len_at_least))
    (λ l e. c.in_err-try_from.ensures.1 l (e ∙ sym c.from.ensures)))

pub returns-in_err-try_from-2 : goal.returns-in_err-try_from-2
returns-in_err-try_from-2 c =
    let text = c.args.text.now in
    let i = c.loop-b.b-index in
    refused _ _ c.from_residual-in_err-try_from-2.ensures.0 (no_letter text (i + 1) (omega (arith, c.loop-b-test.true, length-others text))
    (λ l e. c.in_err-try_from-2.ensures.1 l (e ∙ sym (c.from-in-loop-b.ensures ∙ at_later text i c.loop-b-test.true))))
