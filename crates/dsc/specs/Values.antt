-- The values of a comment.
use Rattle.std.specs.Prelude.{ℕ, ◌+◌, ◌-◌, ◌*◌, Bool, cond, ◌&&◌, List, [], ◌∷◌, length, take, drop, Some, None, Option, nat_eq, nat_le, nat_lt}
use Rattle.std.specs.List.{prefix_len}
use Rattle.dsc.specs.Bounds.{most_digits}
use Rattle.text.specs.Searches.{until}

-- how many blanks stand in front
abbrev pub blanks : List ℕ → ℕ
blanks bs = prefix_len (λ b. nat_eq b 32) bs

-- what follows the blanks in front
abbrev pub trim : List ℕ → List ℕ
trim bs = drop (blanks bs) bs

-- the first word, and what follows it
abbrev pub word_of : List ℕ → List ℕ
word_of bs = take (until 32 (trim bs)) (trim bs)

abbrev pub past_word : List ℕ → List ℕ
past_word bs = drop (until 32 (trim bs)) (trim bs)

abbrev pub digit : ℕ → Bool
digit b = nat_le 48 b && nat_le b 57

-- the number that digits after a go on to
abbrev pub digits : ℕ → List ℕ → Option ℕ
digits a [] = Some a
digits a (b ∷ bs) = cond (digit b) (digits (a * 10 + (b - 48)) bs) None

-- one to five digits
abbrev pub number_of : List ℕ → Option ℕ
number_of w = cond (nat_lt 0 (length w) && nat_le (length w) most_digits) (digits 0 w) None
