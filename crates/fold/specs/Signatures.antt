-- What a signature holds.
use Rattle.std.specs.Prelude.{ℕ, ◌≤◌}
use Rattle.fold.specs.Folding.{Folds, named}
use Rattle.fold.specs.Spelled.{spelled}
use Rattle.fold.specs.Walk.{laid}
use Rattle.fold.specs.Words.{Letters}
use Rattle.fold.specs.declared.signature.Signature.{Signature}

-- The numbers of sheets that a signature may have.
abbrev pub Thick : ℕ → Type 0
Thick sheets = (1 ≤ sheets) × (sheets ≤ 16)

abbrev pub letters_of : Signature → Letters
letters_of s = spelled s.word

-- Stacked and folded, the signature reads its pages in order, all upright, whatever their names.
abbrev pub ReadsInOrder : Signature → Type 0
ReadsInOrder s = (h : ℕ → ℕ) → Folds (letters_of s) s.sheets h (named h (laid (letters_of s) s.sheets))
