-- A reading that has come to some line.
use Rattle.std.specs.Prelude.{◌≡◌, ℕ, suc, ◌+◌, List, [], ◌∷◌, ◌++◌, length, Some, None, Ok, Err, Option, Result}
use Rattle.std.specs.Borrow.{Bor}
use Rattle.pages.specs.declared.faults.Fault.{Fault}
use Rattle.pages.specs.Inks.{lines_of}
use Rattle.dsc.specs.declared.reading.Opened.{Opened}
use Rattle.dsc.specs.declared.reading.Reading.{Reading}
use Rattle.dsc.specs.declared.scanner.Scanner.{Scanner}
use Rattle.dsc.specs.declared.scanner.LeafInk.{LeafInk}
use Rattle.dsc.specs.Scans.{Read, read, run, scanned}

-- the checks before the first line
abbrev pub Opens : List ℕ → Result Opened Fault → Type 0
Opens file (Ok o) = o.file.now ≡ file
Opens file (Err f) = scanned file ≡ Err f

-- what a reading comes to, with the index so far
abbrev pub comes : Scanner → ℕ → List ℕ → Option (Bor (List ℕ)) → Result Read Fault
comes s at xs None = Ok (read s xs)
comes s at xs (Some bs) = run s at xs (lines_of bs.now)

abbrev pub rest : Reading → List ℕ → Result Read Fault
rest w xs = comes w.scanner w.at xs w.unread

-- how many inks are left at most
abbrev pub left_of : Option (Bor (List ℕ)) → ℕ
left_of None = 0
left_of (Some bs) = suc (length bs.now)

abbrev pub left : Reading → ℕ
left w = left_of w.unread

abbrev pub numbers : LeafInk → List ℕ
numbers i = i.span.offset ∷ i.span.length ∷ []

-- if the reading goes on, the next ink is that of leaf n
abbrev pub next_of : Option (Bor (List ℕ)) → ℕ → ℕ → Type 0
next_of None begun n = Unit {0}
next_of (Some bs) begun n = begun ≡ n

abbrev pub Next : Reading → ℕ → Type 0
Next w n = next_of w.unread w.scanner.begun n

-- one ink on, that of leaf n: the whole comes to the same
abbrev pub Onward : (List ℕ → Result Read Fault) → ℕ → Result LeafInk Fault → Reading → Type 0
Onward whole n (Err f) w = (xs : List ℕ) → whole xs ≡ Err f
Onward whole n (Ok i) w = ((xs : List ℕ) → whole xs ≡ rest w (xs ++ numbers i)) × (i.leaf ≡ n) × Next w (n + 1)

abbrev pub Gives : Reading → Option (Result LeafInk Fault) → Reading → Type 0
Gives v None w = (xs : List ℕ) → rest v xs ≡ Ok (read w.scanner xs)
Gives v (Some r) w = Onward (rest v) v.scanner.begun r w × (v.unread ≡ None → ⊥)
