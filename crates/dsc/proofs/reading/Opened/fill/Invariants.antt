use Rattle.std.proofs.Common.{◌≡◌, ℕ, List, ◌++◌, length, drop}
use Rattle.dsc.proofs.Came.{Came}
use Rattle.dsc.proofs.reading.Opened.fill.Given as goal

abbrev pub invariant-loop-ink : goal.invariant-loop-ink
invariant-loop-ink l = (xs : List ℕ) × Came l.self.file.now l.ink-iterator xs × (l.index ≡ xs ++ drop (length xs) l.initial.index)
