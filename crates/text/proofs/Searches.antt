-- How far a byte is.
use Rattle.std.proofs.Common.{ℕ, ◌≤◌, not, eqb, List, length}
use Rattle.std.proofs.lemmas.List.Sums.{prefix_len-le-length}
use Rattle.text.specs.Searches.{until}

pub until_le : (stop : ℕ) (xs : List ℕ) → until stop xs ≤ length xs
until_le stop xs = prefix_len-le-length (λ b. not (eqb b stop)) xs
