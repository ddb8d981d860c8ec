use Rattle.std.proofs.Common.{◌≡◌, ℕ, List, [], ◌++◌, codes, ap, ◌∙◌, subst, is_some, append_assoc}
use Rattle.text.specs.Pieces.{spelled_all}
use Rattle.text.proofs.Taking.{refused}
use Rattle.sides.specs.Texts.{block, block_of, ink_of, line}
use Rattle.sides.proofs.blocks.put_block.Given as given
use Rattle.sides.proofs.blocks.put_block.Goals as goal
use Rattle.sides.proofs.blocks.put_block.Goals.{After-placing}

abbrev ink : (g : given.Over) → After-placing g → List ℕ
ink g c = ink_of (g.S.Source.meaning c.args.source.now) c.args.placement.leaf

abbrev restore : List ℕ
restore = line (codes "restore")

whole : (g : given.Over) (c : After-placing g) → spelled_all c.placing.result ++ (ink g c ++ restore) ≡ block_of (g.S.Source.meaning c.args.source.now) c.args.placement
unfolding block
whole g c = ap (λ z. z ++ (ink g c ++ restore)) c.placing.ensures

pub returns-in_err-put_pieces : goal.returns-in_err-put_pieces
returns-in_err-put_pieces g c =
    let laws = g.met.O.Sink in
    let d = (goal.at.returns-in_err-put_pieces g c).After-placing in
    refused laws.both laws.short [] (spelled_all c.placing.result) (ink g d ++ restore) _ (whole g d) c.from_residual.ensures (laws.nothing c.args.out.now) c.in_err-put_pieces.ensures

pub returns-in_err-take_ink : goal.returns-in_err-take_ink
returns-in_err-take_ink g c =
    let laws = g.met.O.Sink in
    let d = (goal.at.returns-in_err-take_ink g c).After-placing in
    refused laws.both laws.short (spelled_all c.placing.result) (ink g d) restore _ (append_assoc (spelled_all c.placing.result) (ink g d) restore ∙ whole g d)
    c.from_residual-in_err-take_ink.ensures c.in_ok-put_pieces.ensures c.in_err-take_ink.ensures

pub returns : goal.returns
returns g c =
    let laws = g.met.O.Sink in
    let d = (goal.at.returns g c).After-placing in
    subst (λ z. g.O.Sink.takes c.args.out.now z (is_some c.take.result) c.take.new.self) (whole g d)
    (laws.both _ _ _ (spelled_all c.placing.result) (ink g d ++ restore) _ c.in_ok-put_pieces.ensures (laws.both _ _ _ (ink g d) restore _ c.in_ok-take_ink.ensures c.take.ensures))
