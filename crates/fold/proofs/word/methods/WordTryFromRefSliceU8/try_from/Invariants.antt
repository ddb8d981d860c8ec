use Rattle.std.proofs.Common.{◌≡◌, ◌+◌, take}
use Rattle.fold.specs.Spelled.{spelled, text_of}
use Rattle.fold.proofs.word.methods.WordTryFromRefSliceU8.try_from.Given as goal

abbrev pub invariant-loop-b : goal.invariant-loop-b
invariant-loop-b l = text_of (spelled l.word) ≡ take (l.b-index + 1) l.text
