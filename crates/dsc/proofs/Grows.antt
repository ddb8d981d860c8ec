-- A reading only adds to the index, and goes on from where its first lines left it.
use Rattle.std.proofs.Common.{◌≡◌, ℕ, ◌+◌, ◌≤◌, List, [], ◌∷◌, ◌++◌, length, Some, None, Ok, Err, Option, Result, ap, Bor, arith, length-append}
use Rattle.pages.specs.declared.faults.Fault.{Fault}
use Rattle.dsc.specs.declared.scanner.Scanner.{Scanner}
use Rattle.dsc.specs.declared.reading.Reading.{Reading}
use Rattle.dsc.specs.Scans.{Read, Step, goes, ends, stops, step, follow, kind_of, run}
use Rattle.pages.specs.Pieces.{Piece}
use Rattle.pages.specs.Inks.{Context, lines_of}
use Rattle.dsc.specs.Readings.{rest, comes}

pub never : (f : Fault) (o : Read) → ◌≡◌ {A = Result Read Fault} (Err f) (Ok o) → ⊥
never f o e = let z : ◌≡◌ {A = ℕ} 0 1 = cc in omega arith

pub same_read : (p o : Read) → ◌≡◌ {A = Result Read Fault} (Ok p) (Ok o) → p ≡ o
same_read p o e = cc

step_grows : (t : Step) (xs : List ℕ) (k : Scanner → List ℕ → Result Read Fault) (o : Read) → ((s : Scanner) (ys : List ℕ) → k s ys ≡ Ok o → length ys ≤ length o.index) → follow t xs k ≡ Ok o → length xs ≤ length o.index
step_grows (goes s ys) xs k o h e = omega (arith, h s (xs ++ ys) e, length-append xs ys)
step_grows (ends s ys) xs k o h e = omega (arith, ap (λ (p : Read). length p.index) (same_read _ _ e), length-append xs ys)
step_grows (stops f) xs k o h e = absurd (never f o e)

pub grows : (ps : List (Piece Context)) (s : Scanner) (at : ℕ) (xs : List ℕ) (o : Read) → run s at xs ps ≡ Ok o → length xs ≤ length o.index
grows [] s at xs o e = absurd (never _ o e)
grows (p ∷ ps) s at xs o e = step_grows (step s at (at + length p.bytes) (kind_of p)) xs (λ s' ys. run s' (at + length p.bytes) ys ps) o (λ s' ys. grows ps s' (at + length p.bytes) ys o) e

pub rest_grows : (w : Reading) (xs : List ℕ) (o : Read) → rest w xs ≡ Ok o → length xs ≤ length o.index
rest_grows w xs o = by w.unread
  where
    by : (u : Option (Bor (List ℕ))) → comes w.scanner w.at xs u ≡ Ok o → length xs ≤ length o.index
    by None e = omega (arith, ap (λ (p : Read). length p.index) (same_read _ _ e))
    by (Some bs) e = grows (lines_of bs.now) w.scanner w.at xs o e
