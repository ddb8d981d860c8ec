use Rattle.std.proofs.Common.{◌≡◌, ℕ, true, List, ◌++◌, map}
use Rattle.layers.specs.Layering.{moved}
use Rattle.sides.specs.Texts.{blocks_of, part_text}
use Rattle.sides.proofs.positions.put_position.Given as goal

abbrev pub invariant-loop-placement : goal.invariant-loop-placement
invariant-loop-placement g l =
    let m = g.S.Source.meaning l.below in
    (xs : List ℕ) × g.O.Sink.takes l.initial.out xs true l.out
    × (xs ++ blocks_of m (map (moved l.position.map) l.placement-iterator) ≡ part_text m l.position)
