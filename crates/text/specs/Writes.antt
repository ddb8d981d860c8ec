-- What a write leaves and answers.
use Rattle.std.specs.Prelude.{◌≡◌, ℕ, ◌+◌, List, length}
use Rattle.pages.specs.Splice.{splice}

-- A call that found `before`, left `after` and answered `end` wrote exactly `xs` from `at` on.
pub record Wrote {X : Type 0} (before : List X) (at : ℕ) (xs after : List X) (end : ℕ) : Type 0 where
  pub holds : after ≡ splice before at xs
  pub ends : end ≡ at + length xs
