use Rattle.std.proofs.Common.{◌≡◌, ◌+◌, ◌*◌, [], ◌∷◌, ◌++◌, length, take, drop, sym, refl, inl, ap, ◌∙◌, arith, length-append}
use Rattle.std.proofs.lemmas.Bool.{false≢true}
use Rattle.pages.specs.Spans.{pair}
use Rattle.std.specs.List.{flat_map}
use Rattle.listing.specs.Scans.{file_index}
use Rattle.listing.specs.Spans.{spans_left}
use Rattle.listing.proofs.Pairs.{pair_more, pair_within}
use Rattle.listing.proofs.Spans.{few_left, pair_next, pair_put, pairs_left}
use Rattle.listing.proofs.reader.loading.has_index.Goals as goal

pub loop-i-init-derived : goal.loop-i-init-derived
loop-i-init-derived c =
    let none = ap (λ e. e.count) c.into_iter-i-iterator.ensures.into_iter_gives ∙ c.enumerate-i-items.ensures.count in
    ((tt, tt, inl (omega (arith, none, few_left c.into_iter-i-iterator.result.iter))), tt)

pub loop-i-init : goal.loop-i-init
loop-i-init c =
    let gives = c.into_iter-i-iterator.ensures.into_iter_gives in
    let none = ap (λ e. e.count) gives ∙ c.enumerate-i-items.ensures.count in
    let same = ap (λ e. e.iter) gives ∙ c.enumerate-i-items.ensures.source in (
      0 ∷ 0 ∷ [],
      omega (arith, none),
      c.if-not-has_span.ensures.0 refl,
      ap (λ s. 0 ∷ 0 ∷ flat_map pair (spans_left s)) same
          ∙ ap (λ z. 0 ∷ 0 ∷ z) (pairs_left c.spans.result c.args.checked.now.file.now c.spans.ensures.start c.spans.ensures.pages),
    )

pub returns-then-not-has_span-2 : goal.returns-then-not-has_span-2
returns-then-not-has_span-2 c =
    let inv = c.loop-i.invariant in
    let n = c.in-Some.ensures.steps in
    let index = c.args.index.now in
    let k : length inv.0 ≡ 2 * (c.in-Some.i + 1) = omega (arith, inv.1, n.1) in
    let parts = pair_next inv.0 (file_index c.args.checked.now.file.now) _ _ c.in-Some.span inv.3 n.0 in (
      (λ f. absurd (false≢true f)),
      (λ e. c.if-not-has_span-2.ensures.1 (pair_within index inv.0 _ (file_index c.args.checked.now.file.now) _ _ _ k parts e)),
    )

pub loop-i-preserved : goal.loop-i-preserved
loop-i-preserved c =
    let inv = c.loop-i.invariant in
    let n = c.in-Some.ensures.steps in
    let index = c.args.index.now in
    let s = c.in-Some.span in
    let k : 2 * (c.in-Some.i + 1) ≡ length inv.0 = omega (arith, inv.1, n.1) in
    let here = ap (λ m. take 2 (drop m index)) (sym k) ∙ c.if-not-has_span-2.ensures.0 refl in (
      inv.0 ++ pair s,
      omega (arith, length-append inv.0 (pair s), inv.1, n.2),
      ap (λ m. take m index) (length-append inv.0 (pair s)) ∙ pair_more index inv.0 (length inv.0) s.offset s.length inv.2 here,
      pair_put inv.0 (file_index c.args.checked.now.file.now) _ _ s inv.3 n.0,
    )
