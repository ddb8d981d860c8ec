use Rattle.std.proofs.Common.{◌≡◌, ◌+◌, ◌*◌, ◌≤◌, length, drop}
use Rattle.std.specs.List.{flat_map}
use Rattle.sides.specs.Texts.{max_position, part_text}
use Rattle.job.proofs.texts.SideText.length.Given as goal

abbrev pub invariant-loop-position : goal.invariant-loop-position
invariant-loop-position g l =
    let f = part_text (g.S.Source.meaning l.below) in
    (l.length + length (flat_map f (drop l.position-index l.self.positions.items)) ≡ l.initial.length + length (flat_map f l.self.positions.items))
    × (l.length ≤ l.initial.length + max_position * l.position-index)
