-- What scan answers and writes.
use Rattle.std.specs.Prelude.{◌≡◌, ℕ, ◌+◌, ◌*◌, ◌<◌, cond, List, ◌++◌, length, drop, Ok, Err, Result, nat_le}
use Rattle.pages.specs.declared.faults.Fault.{Fault}
use Rattle.pages.specs.declared.faults.Refusal.TheVariants.{ShortBuffer}
use Rattle.pages.specs.Meaning.{fault}
use Rattle.dsc.specs.Scans.{Read, scanned, meant}

-- an index that begins with the numbers of a file
abbrev pub filled : Read → List ℕ → List ℕ
filled o old = o.index ++ drop (length o.index) old

-- the answer, with room for so many numbers: that they do not fit comes last
abbrev pub answered : Result Read Fault → ℕ → Result ℕ Fault
answered (Err f) room = Err f
answered (Ok o) room = cond (nat_le (length o.index) room) (Ok o.leaves) (Err (fault ShortBuffer 1 0))

-- what the index then holds
abbrev pub indexed : Result Read Fault → List ℕ → List ℕ
indexed (Err f) old = old
indexed (Ok o) old = cond (nat_le (length o.index) (length old)) (filled o old) old

-- a file that is accepted and has n leaves: in less room than its index has numbers scan is refused, and leaves the index
pub record Room (file : List ℕ) (n : ℕ) : Type 0 where
  pub accepted : scanned file ≡ Ok (meant file)
  pub leaves : (meant file).leaves ≡ n
  pub long : length (meant file).index ≡ 2 * n + 2
  pub short : (room : ℕ) → room < 2 * n + 2 → answered (scanned file) room ≡ Err (fault ShortBuffer 1 0)
  pub kept : (old : List ℕ) → length old < 2 * n + 2 → indexed (scanned file) old ≡ old

abbrev pub Surveyed : List ℕ → Result ℕ Fault → Type 0
Surveyed file (Ok n) = Room file n
Surveyed file (Err f) = scanned file ≡ Err f
