-- The refusals: the number and the name of each kind, and how a fault is shown.
use Rattle.std.specs.Prelude.{◌≡◌, ℕ, ◌≤◌, List, ◌++◌, codes, decimal}
use Rattle.pages.specs.declared.faults.Refusal.{Refusal}
use Rattle.pages.specs.declared.faults.Refusal.TheVariants.{NotDsc, OutOfOrder, BadComment, Miscount, Unfinished, BadByte, TooLong, TooMany, NoSuch, BadOrder, Uneven, TooLarge, Crowded, TooFar, ShortBuffer, WrongIndex, Finished, ShortPlan}
use Rattle.pages.specs.declared.faults.Fault.{Fault}

abbrev pub number : Refusal → ℕ
number NotDsc = 1
number OutOfOrder = 2
number BadComment = 3
number Miscount = 4
number Unfinished = 5
number BadByte = 6
number TooLong = 7
number TooMany = 8
number NoSuch = 9
number BadOrder = 10
number Uneven = 11
number TooLarge = 12
number Crowded = 13
number TooFar = 14
number ShortBuffer = 15
number WrongIndex = 16
number Finished = 17
number ShortPlan = 18

abbrev pub name : Refusal → List ℕ
name NotDsc = codes "NOT DSC"
name OutOfOrder = codes "OUT OF ORDER"
name BadComment = codes "BAD COMMENT"
name Miscount = codes "MISCOUNT"
name Unfinished = codes "UNFINISHED"
name BadByte = codes "BAD BYTE"
name TooLong = codes "TOO LONG"
name TooMany = codes "TOO MANY"
name NoSuch = codes "NO SUCH"
name BadOrder = codes "BAD ORDER"
name Uneven = codes "UNEVEN"
name TooLarge = codes "TOO LARGE"
name Crowded = codes "CROWDED"
name TooFar = codes "TOO FAR"
name ShortBuffer = codes "SHORT BUFFER"
name WrongIndex = codes "WRONG INDEX"
name Finished = codes "FINISHED"
name ShortPlan = codes "SHORT PLAN"

-- a fault as it is printed: NUMBER NAME layer L page P offset O
abbrev pub fault_text : Fault → List ℕ
fault_text f = decimal (number f.kind) ++ (codes " " ++ (name f.kind ++ (codes " layer " ++ (decimal f.layer ++ (codes " page " ++ (decimal f.page ++ (codes " offset " ++ decimal f.offset)))))))

-- the numbers are 1 to 18, each of one kind
pub record Numbered : Type 0 where
  pub within : (k : Refusal) → (1 ≤ number k) × (number k ≤ 18)
  pub apart : (j k : Refusal) → number j ≡ number k → j ≡ k
  pub each : (n : ℕ) → 1 ≤ n → n ≤ 18 → (k : Refusal) × (number k ≡ n)
