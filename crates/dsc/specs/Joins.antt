-- A reading that goes on from where its first lines left it.
use Rattle.std.specs.Prelude.{◌≡◌, ℕ, ◌+◌, List, [], ◌∷◌, ◌++◌, length, Ok, Err, Result}
use Rattle.pages.specs.declared.faults.Fault.{Fault}
use Rattle.pages.specs.Pieces.{Piece}
use Rattle.pages.specs.Inks.{Context, lines_of}
use Rattle.dsc.specs.declared.scanner.Scanner.{Scanner}
use Rattle.dsc.specs.Scans.{Read, read, Step, goes, ends, stops, step, kind_of, run, start}

-- where lines lead: the scanner, the offset behind them and the index so far; or all has been said
pub data After : Type 0 where
  still : Scanner → ℕ → List ℕ → After
  over : Result Read Fault → After

abbrev pub go_on : Step → List ℕ → (Scanner → List ℕ → After) → After
go_on (goes s ys) xs k = k s (xs ++ ys)
go_on (ends s ys) xs k = over (Ok (read s (xs ++ ys)))
go_on (stops f) xs k = over (Err f)

abbrev pub after_lines : Scanner → ℕ → List ℕ → List (Piece Context) → After
after_lines s at xs [] = still s at xs
after_lines s at xs (p ∷ ps) = go_on (step s at (at + length p.bytes) (kind_of p)) xs (λ s' ys. after_lines s' (at + length p.bytes) ys ps)

abbrev pub resume : After → List (Piece Context) → Result Read Fault
resume (still s at xs) ps = run s at xs ps
resume (over r) ps = r

-- where a file's first bytes lead
abbrev pub after_front : List ℕ → After
after_front front = after_lines start 0 [] (lines_of front)

pub record ReadingsJoin : Type 0 where
  -- bytes that end with a line feed, and then more: the second reading goes on from where the first came to
  pub joins : (s : Scanner) (at : ℕ) (xs bs cs : List ℕ) → run s at xs (lines_of ((bs ++ 10 ∷ []) ++ cs)) ≡ resume (after_lines s at xs (lines_of (bs ++ 10 ∷ []))) (lines_of cs)
  -- fronts that lead to the same are the same to the rest of the file
  pub alike : (f g cs : List ℕ) → after_front (f ++ 10 ∷ []) ≡ after_front (g ++ 10 ∷ []) → run start 0 [] (lines_of ((f ++ 10 ∷ []) ++ cs)) ≡ run start 0 [] (lines_of ((g ++ 10 ∷ []) ++ cs))
