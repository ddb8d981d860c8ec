use Rattle.std.proofs.Common.{ℕ, List, ◌++◌, map, sym, ap, ◌∙◌, append_assoc}
use Rattle.pages.specs.declared.maps.Placement.{Placement}
use Rattle.layers.specs.Layering.{moved}
use Rattle.sides.specs.Texts.{block_of, blocks_of}
use Rattle.sides.proofs.positions.put_position.Goals as goal

pub loop-placement-preserved : goal.loop-placement-preserved
loop-placement-preserved g c =
    let m = g.S.Source.meaning c.args.below.now in
    let rest = λ (ps : List Placement). blocks_of m (map (moved c.args.position.now.map) ps) in
    let xs = c.loop-placement.invariant.0 in (
      xs ++ block_of m c.moved.result,
      g.met.O.Sink.both _ _ _ xs (block_of m c.moved.result) _ c.loop-placement.invariant.1 c.in_ok-put_block.ensures,
      append_assoc xs (block_of m c.moved.result) (rest c.next.new.self)
          ∙ ap (λ (z : List ℕ). xs ++ z) (ap (λ (p : Placement). block_of m p ++ rest c.next.new.self) c.moved.ensures ∙ sym (ap rest c.in-Some.ensures.steps))
          ∙ c.loop-placement.invariant.2,
    )
