use Rattle.std.proofs.Common.{◌≡◌, ℕ, ◌+◌, ◌*◌, [], ◌∷◌, ◌++◌, length, sym, refl, inl, ap, ◌∙◌, arith, length-append}
use Rattle.pages.specs.Spans.{pair}
use Rattle.std.specs.List.{flat_map}
use Rattle.text.proofs.Splices.{splice_none}
use Rattle.listing.specs.Scans.{file_index}
use Rattle.listing.specs.Spans.{spans_left}
use Rattle.listing.proofs.Spans.{few_left, pair_put, pair_room, pairs_left, put_after, put_goes}
use Rattle.listing.proofs.scans.fill.Goals as goal

pub loop-i-init-derived : goal.loop-i-init-derived
loop-i-init-derived c =
    let none = ap (λ e. e.count) c.into_iter-i-iterator.ensures.into_iter_gives ∙ c.enumerate-i-items.ensures.count in
    ((tt, tt, inl (omega (arith, none, few_left c.into_iter-i-iterator.result.iter))), tt)

pub loop-i-init : goal.loop-i-init
loop-i-init c =
    let gives = c.into_iter-i-iterator.ensures.into_iter_gives in
    let none = ap (λ e. e.count) gives ∙ c.enumerate-i-items.ensures.count in
    let same = ap (λ e. e.iter) gives ∙ c.enumerate-i-items.ensures.source in
    let index = c.args.index.now in (
      0 ∷ 0 ∷ [],
      omega (arith, none),
      c.in_ok-put.ensures.after ∙ put_after index index [] 0 (record { offset = 0; length = 0 }) (sym (splice_none index 0)) refl (omega (arith, c.requires)),
      ap (λ s. 0 ∷ 0 ∷ flat_map pair (spans_left s)) same
          ∙ ap (λ z. 0 ∷ 0 ∷ z) (pairs_left c.spans.result c.args.checked.now.file.now c.spans.ensures.start c.spans.ensures.pages),
    )

pub loop-i-preserved : goal.loop-i-preserved
loop-i-preserved c =
    let inv = c.loop-i.invariant in
    let n = c.in-Some.ensures.steps in
    let s = c.in-Some.span in
    let k : length inv.0 ≡ 2 * (c.in-Some.i + 1) = omega (arith, inv.1, n.1) in
    let room = pair_room inv.0 (file_index c.args.checked.now.file.now) _ _ s inv.3 n.0 in (
      inv.0 ++ pair s,
      omega (arith, length-append inv.0 (pair s), inv.1, n.2),
      c.in_ok-put-2.ensures.after ∙ put_after c.args.index.now c.loop-i.index inv.0 (2 * (c.in-Some.i + 1)) s inv.2 k (omega (arith, room, k, c.loop-i.auto.index, c.requires)),
      pair_put inv.0 (file_index c.args.checked.now.file.now) _ _ s inv.3 n.0,
    )

pub returns-in_err-put-2-clause-answer : goal.returns-in_err-put-2-clause-answer
returns-in_err-put-2-clause-answer c =
    let inv = c.loop-i.invariant in
    let n = c.in-Some.ensures.steps in
    let k : length inv.0 ≡ 2 * (c.in-Some.i + 1) = omega (arith, inv.1, n.1) in
    let room = pair_room inv.0 (file_index c.args.checked.now.file.now) _ _ c.in-Some.span inv.3 n.0 in
    let goes = c.in_err-put-2.ensures.answer ∙ put_goes (c.in-Some.i + 1) (length c.loop-i.index) (omega (arith, room, k, c.loop-i.auto.index, c.requires)) in
    absurd (let z : ◌≡◌ {A = ℕ} 0 1 = cc in omega arith)

pub returns-in_err-put-2-clause-after : goal.returns-in_err-put-2-clause-after
returns-in_err-put-2-clause-after c =
    let inv = c.loop-i.invariant in
    let n = c.in-Some.ensures.steps in
    let k : length inv.0 ≡ 2 * (c.in-Some.i + 1) = omega (arith, inv.1, n.1) in
    let room = pair_room inv.0 (file_index c.args.checked.now.file.now) _ _ c.in-Some.span inv.3 n.0 in
    let goes = c.in_err-put-2.ensures.answer ∙ put_goes (c.in-Some.i + 1) (length c.loop-i.index) (omega (arith, room, k, c.loop-i.auto.index, c.requires)) in
    absurd (let z : ◌≡◌ {A = ℕ} 0 1 = cc in omega arith)
