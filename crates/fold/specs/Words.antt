-- Fold words as lists of letters, the masks and characters that stand for them, and the schemes.
use Rattle.std.specs.Prelude.{ℕ, zero, suc, ◌*◌, ◌/◌, ◌%◌, ◌^◌, cond, List, [], ◌∷◌, Some, None, Option, ◌==◌}
use Rattle.fold.specs.declared.letters.Letter.{Letter}
use Rattle.fold.specs.declared.letters.Letter.TheVariants.{W, N}

-- A word: its letters in the order in which the folds are made.
abbrev pub Letters : Type 0
Letters = List Letter

-- How many letters of a word are W, and how many are N.
abbrev pub count_w : Letters → ℕ
count_w [] = 0
count_w (W ∷ w) = suc (count_w w)
count_w (N ∷ w) = count_w w

abbrev pub count_n : Letters → ℕ
count_n [] = 0
count_n (W ∷ w) = count_n w
count_n (N ∷ w) = suc (count_n w)

-- The grid of cells on each side of a sheet, before the first fold.
abbrev pub columns_of : Letters → ℕ
columns_of w = 2 ^ count_w w

abbrev pub rows_of : Letters → ℕ
rows_of w = 2 ^ count_n w

-- The cells of that grid.
abbrev pub cells : Letters → ℕ
cells w = rows_of w * columns_of w

-- A mask has a digit for each letter, the first letter's lowest.
abbrev pub digit_of : Letter → ℕ
digit_of W = 0
digit_of N = 1

abbrev pub of_digit : ℕ → Letter
of_digit zero = W
of_digit (suc n) = N

-- The first n letters that a mask holds.
abbrev pub letters : ℕ → ℕ → Letters
letters zero mask = []
letters (suc n) mask = of_digit (mask % 2) ∷ letters n (mask / 2)

-- The characters W and N.
abbrev pub code : Letter → ℕ
code W = 87
code N = 78

-- The schemes, by their numbers; no other number is one.
abbrev pub scheme : ℕ → Option Letters
scheme n =
    cond (n == 1) (Some (W ∷ []))
    (cond (n == 2) (Some (N ∷ W ∷ []))
    (cond (n == 3) (Some (W ∷ N ∷ W ∷ []))
    (cond (n == 4) (Some (W ∷ W ∷ []))
    (cond (n == 5) (Some (N ∷ W ∷ N ∷ W ∷ []))
    None))))
