-- What is printed side by side, and what the calls that print it do.
use Rattle.std.specs.Prelude.{◌≡◌, ℕ, zero, suc, ◌+◌, ◌*◌, ◌<◌, ◌≤◌, cond, List, [], ◌++◌, length, Some, None, Ok, Err, Option, Result, nat_le, nat_lt}
use Rattle.std.specs.Option.{ok_or}
use Rattle.fold.specs.declared.sheets.Cell.{Cell}
use Rattle.pages.specs.Meaning.{Meaning, fault}
use Rattle.pages.specs.Splice.{splice}
use Rattle.pages.specs.declared.faults.Fault.{Fault}
use Rattle.pages.specs.declared.faults.Refusal.TheVariants.{Finished, NoSuch, ShortBuffer, ShortPlan}
use Rattle.layers.specs.Layering.{deeper}
use Rattle.text.specs.Writes.{Wrote}
use Rattle.plan.specs.declared.record.Record.{Record}
use Rattle.job.specs.Calls.{pullable}

-- Sides count from 1. Each has a text and so many records; `layer` is the source whose pages the sides are. A job's own
-- book says by what order sides come about; an edition, only what they are.
pub record Edition : Type 0 where
  pub sides : ℕ
  pub text : ℕ → List ℕ
  pub per : ℕ
  pub records : ℕ → List Record
  pub cell : ℕ → ℕ → ℕ → Option Cell
  pub opening : List ℕ
  pub ending : List ℕ
  pub layer : Meaning

-- how many sides stand printed, and what the buffer and the plan list hold
pub record State : Type 0 where
  pub printed : ℕ
  pub buffer : List ℕ
  pub plan : List Record

abbrev pub state : ℕ → List ℕ → List Record → State
state n b p = record { printed = n; buffer = b; plan = p }

-- the depth at which the job itself refuses: one more than the layer that it prints
abbrev pub depth_of : Edition → ℕ
depth_of e = deeper e.layer

-- the records of sides 1 to n
abbrev pub plan_of : Edition → ℕ → List Record
plan_of e zero = []
plan_of e (suc n) = plan_of e n ++ e.records (suc n)

-- why the print of the side after n is refused, if it is, with so many bytes of room and records in the plan list: the last
-- side is printed, then the text does not fit, then the records do not
abbrev pub print_refusal : Edition → ℕ → ℕ → ℕ → Option Fault
print_refusal e room list n =
    cond (nat_le e.sides n) (Some (fault Finished (depth_of e) 0))
    (cond (nat_lt room (length (e.text (n + 1)))) (Some (fault ShortBuffer (depth_of e) 0))
    (cond (nat_lt list ((n + 1) * e.per)) (Some (fault ShortPlan (depth_of e) 0)) None))

abbrev pub refusal_in : Edition → State → Option Fault
refusal_in e x = print_refusal e (length x.buffer) (length x.plan) x.printed

-- what a print answers in the state x, and leaves
abbrev pub Prints : Edition → (x x' : State) → Result ℕ Fault → Type 0
Prints e x x' (Ok len) =
    (refusal_in e x ≡ None) × (x'.printed ≡ x.printed + 1) × Wrote x.buffer 0 (e.text (x.printed + 1)) x'.buffer len
    × (x'.plan ≡ splice x.plan (x.printed * e.per) (e.records (x.printed + 1)))
Prints e x x' (Err f) = (refusal_in e x ≡ Some f) × (x'.printed ≡ x.printed) × (x'.buffer ≡ x.buffer) × (x'.plan ≡ x.plan)

-- what the writing of a text does to the buffer
abbrev pub Writes : (text : List ℕ) (depth : ℕ) (buffer buffer' : List ℕ) → Result ℕ Fault → Type 0
Writes text depth buffer buffer' (Ok len) = (length text ≤ length buffer) × Wrote buffer 0 text buffer' len
Writes text depth buffer buffer' (Err f) = (length buffer < length text) × (f ≡ fault ShortBuffer depth 0) × (buffer' ≡ buffer)

-- a pull-back to a side that is printed, or to the next: it is printed next
abbrev pub pull_back : Edition → ℕ → ℕ → Result (Unit {0}) Fault
pull_back e n s = cond (pullable n s) (Ok tt) (Err (fault NoSuch (depth_of e) s))

-- what a position of a side shows
abbrev pub cell_at : Edition → ℕ → ℕ → ℕ → Result Cell Fault
cell_at e s i j = ok_or (e.cell s i j) (fault NoSuch (depth_of e) s)
