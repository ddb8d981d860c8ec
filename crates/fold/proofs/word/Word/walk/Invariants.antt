use Rattle.std.proofs.Common.{◌≡◌}
use Rattle.fold.specs.Spelled.{spelled, unread}
use Rattle.fold.specs.Walk.{walk, WithRoom}
use Rattle.fold.proofs.word.Word.walk.Given as goal

abbrev pub invariant-loop-letter : goal.invariant-loop-letter
invariant-loop-letter l =
    (walk (unread l.letter-iterator) l.cell ≡ walk (spelled l.self) l.fn.start) × WithRoom l.letter-iterator.left l.cell
