use Rattle.std.proofs.Common.{◌≡◌, ◌+◌, ◌≤◌, length, ap, sym, ◌∙◌, arith, length-append}
use Rattle.layers.specs.Layering.{Parts}
use Rattle.signature.specs.Imposing.{impose_shows}
use Rattle.job.proofs.Gathering.{positions_few}
use Rattle.job.proofs.texts.SideText.of.Goals as goal

pub push-requires : goal.push-requires
push-requires g c =
    let l = c.args.layer.now in
    let n : length (impose_shows l.rule.signature (g.S.Source.meaning l.below) c.args.side) ≤ 16 = positions_few l.rule.signature (g.S.Source.meaning l.below) c.args.side in
    let e : length c.loop-position.positions.items + length c.loop-position.position-iterator ≡ length (impose_shows l.rule.signature (g.S.Source.meaning l.below) c.args.side) =
    sym (length-append c.loop-position.positions.items c.loop-position.position-iterator) ∙ ap (λ (xs : Parts). length xs) c.loop-position.invariant in
    let k = ap (λ (xs : Parts). length xs) c.in-Some.ensures.steps in
    (omega arith, omega (arith, n, e, k))
