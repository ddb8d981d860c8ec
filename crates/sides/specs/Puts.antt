-- What a text leaves in a buffer that it may not fit.
use Rattle.std.specs.Prelude.{◌≡◌, ℕ, ◌+◌, ◌<◌, ◌≤◌, List, ◌++◌, length, Some, None, Option}
use Rattle.pages.specs.Splice.{splice}

-- the text fits, and it and nothing else was written from `at` on; `end` is the place after it
pub record Whole (before : List ℕ) (at : ℕ) (text after : List ℕ) (end : ℕ) : Type 0 where
  pub fits : at + length text ≤ length before
  pub holds : after ≡ splice before at text
  pub ends : end ≡ at + length text

-- the text does not fit, and a front of it and nothing else was written from `at` on
pub record Begun (before : List ℕ) (at : ℕ) (text after : List ℕ) : Type 0 where
  pub short : length before < at + length text
  pub front : List ℕ
  pub rest : List ℕ
  pub parts : text ≡ front ++ rest
  pub holds : after ≡ splice before at front

abbrev pub Put : List ℕ → ℕ → List ℕ → List ℕ → Option ℕ → Type 0
Put before at text after (Some end) = Whole before at text after end
Put before at text after None = Begun before at text after
