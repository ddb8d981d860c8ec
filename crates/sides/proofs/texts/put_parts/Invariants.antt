use Rattle.std.proofs.Common.{◌≤◌, true, length, take}
use Rattle.std.specs.List.{flat_map}
use Rattle.sides.specs.Texts.{part_text}
use Rattle.sides.proofs.texts.put_parts.Given as goal

abbrev pub invariant-loop-position : goal.invariant-loop-position
invariant-loop-position g l =
    (l.position-index ≤ length l.positions)
    × g.O.Sink.takes l.initial.out (flat_map (part_text (g.S.Source.meaning l.below)) (take l.position-index l.positions)) true l.out
