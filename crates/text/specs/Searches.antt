-- How far a byte is.
use Rattle.std.specs.Prelude.{ℕ, not, List, ◌==◌}
use Rattle.std.specs.List.{prefix_len}

-- How many bytes stand before the first that is `stop`, or in all.
abbrev pub until : ℕ → List ℕ → ℕ
until stop bs = prefix_len (λ b. not (b == stop)) bs
