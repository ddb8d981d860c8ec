use Rattle.std.proofs.Common.{◌≡◌, ◌+◌, ◌-◌, ◌&&◌, ltb, length, take, drop, sym, ◌∙◌, arith}
use Rattle.std.proofs.lemmas.Bool.{and_from, cond-true, le-leb}
use Rattle.std.proofs.lemmas.List.{length-take-le, length-drop}
use Rattle.fold.specs.Signatures.{letters_of}
use Rattle.fold.specs.Words.{cells}
use Rattle.text.proofs.Splices.{put_mid_lem}
use Rattle.plan.specs.Records.{fits_at, is_side, record_at, records_of}
use Rattle.plan.proofs.Plans.{length-records}
use Rattle.plan.proofs.Putting.{answered, set_more, all_set}
use Rattle.plan.proofs.records.put_records.Goals as goal

pub loop-index-preserved : goal.loop-index-preserved
loop-index-preserved c =
    let s = c.args.signature.now in
    let u = letters_of s in
    let p = c.args.side in
    let i = c.loop-index.index in
    set_more (record_at u s.sheets p) _ _ i c.in_ok-entry.field-0 c.loop-index-test.true
    (answered (is_side p && ltb i (cells u)) c.in_ok-entry.field-0 (record_at u s.sheets p i) c.in_ok-entry.ensures)
    c.loop-index.invariant

pub returns-clause-after : goal.returns-clause-after
returns-clause-after c =
    let s = c.args.signature.now in
    let u = letters_of s in
    let p = c.args.side in
    let at = c.args.at in
    let plan = c.args.plan.now in
    let end = c.in_ok-end.end in
    let count : end - at ≡ cells u = omega (arith, c.in_ok-end.ensures.1, c.cells.ensures.all) in
    let items : length (take (end - at) (drop at plan)) ≡ end - at = length-take-le (end - at) (drop at plan) (omega (arith, length-drop at plan, c.if-plan-end.false)) in
    put_mid_lem plan at (end - at) c.loop-index.entry-items (records_of u s.sheets p)
    (all_set (record_at u s.sheets p) _ _ c.loop-index.index (cells u) (omega (arith, items, count)) (omega (arith, items, count, c.loop-index-test.false, c.loop-index.auto.index-end)) c.loop-index.invariant)
    (count ∙ sym (length-records u s.sheets p))
    ∙ sym (cond-true (fits_at u p (length plan) at) _ _ (and_from _ _ (sym c.is_side.ensures ∙ c.if-not-is_side.false)
    (le-leb (at + cells u) (length plan) (omega (arith, c.in_ok-end.ensures.1, c.cells.ensures.all, c.if-plan-end.false)))))
