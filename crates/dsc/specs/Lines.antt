-- The first line of some bytes.
use Rattle.std.specs.Prelude.{◌≡◌, ℕ, ◌≤◌, List, [], ◌∷◌, ◌++◌, length, Some, None, Option}
use Rattle.std.specs.Borrow.{Bor}
use Rattle.pages.specs.Inks.{line, lines_of}

-- l is the first line of bs, its line feed included, and rest follows it
pub record Begins (bs l rest : List ℕ) : Type 0 where
  pub some : 1 ≤ length l
  pub whole : bs ≡ l ++ rest
  pub lines : lines_of bs ≡ line l ∷ lines_of rest

abbrev pub Split : List ℕ → Option (Bor (List ℕ) × Bor (List ℕ)) → Type 0
Split bs None = bs ≡ []
Split bs (Some p) = Begins bs p.0.now p.1.now

-- the bytes that are left, if the reading goes on
abbrev pub bytes_of : Option (Bor (List ℕ)) → List ℕ
bytes_of None = []
bytes_of (Some bs) = bs.now
