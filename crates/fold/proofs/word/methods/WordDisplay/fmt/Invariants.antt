use Rattle.std.specs.Fmt.{HasWritten, IsPlainFormatter}
use Rattle.fold.specs.Spelled.{text_of}
use Rattle.fold.proofs.word.methods.WordDisplay.fmt.Given as goal

abbrev pub invariant-loop-letter : goal.invariant-loop-letter
invariant-loop-letter g l =
    IsPlainFormatter l.initial.f → HasWritten g.W.Write.write_str_gives l.initial.f (text_of l.yielded) l.f
