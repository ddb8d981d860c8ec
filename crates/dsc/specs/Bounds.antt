-- The numbers of the rules, and the first bytes of a file.
use Rattle.std.specs.Prelude.{ℕ, List, codes}

-- the longest file, in bytes
abbrev pub longest : ℕ
longest = 16777216

-- how many digits a number has at most
abbrev pub most_digits : ℕ
most_digits = 5

-- what a DSC file begins with
abbrev pub mark : List ℕ
mark = codes "%!PS-Adobe-3.0"
