-- The first page that fails a test.
use Rattle.std.proofs.Common.{ℕ, ◌+◌, ◌<◌, ◌≤◌, Some, None, Option, MatchOption, arith}
use Rattle.layers.specs.Layering.{EachPage, FirstPage}

-- a search over the numbers from 1 to n
pub first_page : (n : ℕ) (Passes Fails : ℕ → Type 0) (r : Option ℕ) →
    MatchOption r ((k : ℕ) → 1 ≤ k → k < n + 1 → Passes k) (λ p. (1 ≤ p) × (p < n + 1) × Fails p × ((k : ℕ) → 1 ≤ k → k < p → Passes k)) →
    MatchOption r (EachPage n Passes) (λ p. FirstPage n Passes Fails p)
first_page n Passes Fails None h = λ p a b. h p a (omega arith)
first_page n Passes Fails (Some p) h = record { page = (h.0, omega arith); fails = h.2; before = h.3 }
