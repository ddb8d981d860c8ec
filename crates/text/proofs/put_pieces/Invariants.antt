use Rattle.std.proofs.Common.{◌≤◌, true, length, take}
use Rattle.text.specs.Pieces.{spelled_all}
use Rattle.text.proofs.put_pieces.Given as goal

abbrev pub invariant-loop-piece : goal.invariant-loop-piece
invariant-loop-piece g l = (l.piece-index ≤ length l.pieces) × g.O.Sink.takes l.initial.out (spelled_all (take l.piece-index l.pieces)) true l.out
