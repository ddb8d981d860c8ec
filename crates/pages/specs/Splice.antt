-- A list with some of its elements written over.
use Rattle.std.specs.Prelude.{ℕ, ◌+◌, List, ◌++◌, length, take, drop}

-- `before` with exactly `xs` written over it from place `at` on
unfoldable pub splice : {X : Type 0} → List X → ℕ → List X → List X
splice before at xs = take at before ++ (xs ++ drop (at + length xs) before)
