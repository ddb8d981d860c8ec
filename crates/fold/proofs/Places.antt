-- Positions that a signature has.
use Rattle.std.proofs.Common.{◌≡◌, ℕ, ◌≤◌, true}
use Rattle.std.proofs.lemmas.Bool.{and_parts, leb-true}
use Rattle.fold.specs.Walk.{from_1_to}

-- a number from 1 to n
pub within : (n x : ℕ) → from_1_to n x ≡ true → (1 ≤ x) × (x ≤ n)
within n x h = let p = and_parts _ _ h in (leb-true 1 x p.0, leb-true x n p.1)
