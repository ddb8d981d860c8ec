use Rattle.std.proofs.Common.{◌≡◌, ◌+◌, ◌<◌, min, length, sym, ap, ◌∙◌, arith}
use Rattle.std.proofs.lemmas.Bool.{eqb-false}
use Rattle.dsc.proofs.FirstLine.{line_len, begins}
use Rattle.dsc.proofs.Spans.{until_le}
use Rattle.dsc.proofs.lines.first_line.Goals as goal

pub overflow_add-before : goal.overflow_add-before
overflow_add-before c = omega (arith, until_le 10 c.args.bytes.now)

pub returns : goal.returns
returns c =
    let bs = c.args.bytes.now in
    let some : 0 < length bs = omega (arith, eqb-false (length bs) 0 (sym c.is_empty.ensures ∙ c.if-is_empty.false)) in
    let end : c.min-end.result ≡ line_len bs = c.min-end.ensures ∙ ap (λ n. min (n + 1) (length bs)) c.before-2.ensures in
    rw (c.split_at.ensures.front, c.split_at.ensures.back) (rw end (begins bs some))
