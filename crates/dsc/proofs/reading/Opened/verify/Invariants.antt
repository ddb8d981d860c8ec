use Rattle.std.proofs.Common.{◌≡◌, ℕ, List, length, take, Decides}
use Rattle.dsc.specs.Readings.{left}
use Rattle.dsc.proofs.Came.{Came}
use Rattle.dsc.proofs.reading.Opened.verify.Given as goal

abbrev pub invariant-loop-ink : goal.invariant-loop-ink
invariant-loop-ink l = (xs : List ℕ) × Came l.self.file.now l.reading xs × Decides l.same (take (length xs) l.index ≡ xs)

abbrev pub decreases-loop-ink : goal.decreases-loop-ink
decreases-loop-ink l = left l.reading
