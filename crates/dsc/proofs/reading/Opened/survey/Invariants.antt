use Rattle.std.proofs.Common.{◌≡◌, ℕ, ◌+◌, ◌*◌, ◌⊎◌, List, length}
use Rattle.dsc.proofs.Came.{Came}
use Rattle.dsc.proofs.reading.Opened.survey.Given as goal

-- the numbers of the inks so far, of which the last one's leaf is known
abbrev pub invariant-loop-ink : goal.invariant-loop-ink
invariant-loop-ink l = (xs : List ℕ) × Came l.self.file.now l.ink-iterator xs × ((length xs ≡ 0) ⊎ (length xs ≡ 2 * l.leaves + 2))
