use Rattle.std.proofs.Common.{◌<◌, ◌≤◌, length, get_or, sym, ◌∙◌, add-one, arith}
use native.Mathlib.Nat.{pow-succ'}
use Rattle.std.proofs.lemmas.Bool.{eqb-false}
use Rattle.dsc.proofs.Spans.{number_digits, digits_more, digits_low, digits_high, digits_all}
use Rattle.dsc.proofs.values.number.Goals as goal

pub returns-in_default : goal.returns-in_default
returns-in_default c =
    let w = c.args.word.now in
    let i = c.loop-b.b-index in
    let lo : get_or w i 0 < 48 = omega arith in
    sym (number_digits w (omega (arith, eqb-false (length w) 0 (sym c.if-is_empty.ensures))) (omega arith) ∙ sym c.loop-b.invariant.0 ∙ digits_low w i c.loop-b.n (omega arith) lo)

pub returns-in_default-2 : goal.returns-in_default-2
returns-in_default-2 c =
    let w = c.args.word.now in
    let i = c.loop-b.b-index in
    let hi : 57 < get_or w i 0 = omega arith in
    sym (number_digits w (omega (arith, eqb-false (length w) 0 (sym c.if-is_empty.ensures))) (omega arith) ∙ sym c.loop-b.invariant.0 ∙ digits_high w i c.loop-b.n (omega arith) hi)

pub loop-b-preserved : goal.loop-b-preserved
loop-b-preserved c =
    let w = c.args.word.now in
    let i = c.loop-b.b-index in
    let lo : 48 ≤ get_or w i 0 = omega arith in
    let hi : get_or w i 0 ≤ 57 = omega arith in
    (sym (digits_more w i c.loop-b.n (omega arith) lo hi) ∙ c.loop-b.invariant.0, rw (add-one, pow-succ') (omega arith))

pub returns : goal.returns
returns c =
    let w = c.args.word.now in
    sym (number_digits w (omega (arith, eqb-false (length w) 0 (sym c.if-is_empty.ensures))) (omega arith) ∙ sym c.loop-b.invariant.0 ∙ digits_all w c.loop-b.b-index c.loop-b.n (omega arith))
