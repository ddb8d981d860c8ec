-- What each call of a job answers and leaves. n is how many sides are printed.
use Rattle.std.specs.Prelude.{ℕ, ◌+◌, ◌-◌, ◌*◌, Bool, cond, List, length, Some, None, Ok, Err, Option, Result, nat_le, nat_lt}
use Rattle.std.specs.Option.{option_map, ok_or}
use Rattle.fold.specs.Signatures.{letters_of}
use Rattle.fold.specs.Walk.{from_1_to}
use Rattle.fold.specs.declared.sheets.Cell.{Cell}
use Rattle.fold.specs.declared.signature.Signature.{Signature}
use Rattle.pages.specs.Meaning.{fault}
use Rattle.pages.specs.Splice.{splice}
use Rattle.pages.specs.declared.faults.Fault.{Fault}
use Rattle.pages.specs.declared.faults.Refusal.{Refusal}
use Rattle.pages.specs.declared.faults.Refusal.TheVariants.{Finished, NoSuch, ShortBuffer, ShortPlan}
use Rattle.plan.specs.Folds.{mark_numbered}
use Rattle.plan.specs.Records.{position_record}
use Rattle.plan.specs.declared.record.Record.{Record}
use Rattle.text.specs.Pieces.{place_after}
use Rattle.job.specs.Books.{Book, job_depth, per_side, side_printed, side_records, sides}

-- ---- print

-- why the side after n is not printed, if it is not, into a buffer of `room` bytes and a plan of `list` records
abbrev pub print_refusal : Book → (n room list : ℕ) → Option Refusal
print_refusal b n room list =
    cond (nat_le (sides b) n) (Some Finished)
    (cond (nat_lt room (length (side_printed b (n + 1)))) (Some ShortBuffer)
    (cond (nat_lt list ((n + 1) * per_side b)) (Some ShortPlan) None))

-- what a print answers, and the count, the buffer and the plan after it
pub record Outcome : Type 0 where
  pub answer : Result ℕ Fault
  pub count : ℕ
  pub buffer : List ℕ
  pub plan : List Record

-- A refusal alters nothing. Else the text stands at the buffer's start, the records stand after those of sides 1 to n,
-- nothing else is altered, and one side more is printed.
abbrev pub outcome : Book → ℕ → List ℕ → List Record → Option Refusal → Outcome
outcome b n buffer plan (Some kind) = record { answer = Err (fault kind (job_depth b) 0); count = n; buffer = buffer; plan = plan }
outcome b n buffer plan None = record {
  answer = Ok (length (side_printed b (n + 1)));
  count = n + 1;
  buffer = splice buffer 0 (side_printed b (n + 1));
  plan = splice plan (n * per_side b) (side_records b (n + 1));
}

abbrev pub printing : Book → ℕ → List ℕ → List Record → Outcome
printing b n buffer plan = outcome b n buffer plan (print_refusal b n (length buffer) (length plan))

-- ---- pull-back

-- a pull-back to side s is accepted
abbrev pub pullable : ℕ → ℕ → Bool
pullable n s = from_1_to (n + 1) s

-- the count after it
abbrev pub pulled : ℕ → ℕ → ℕ
pulled n s = cond (pullable n s) (s - 1) n

-- ---- opening and ending

-- what a call answers that writes a text at the start of a buffer of `room` bytes: its length
abbrev pub start_answer : Book → List ℕ → ℕ → Result ℕ Fault
start_answer b text room = ok_or (place_after text room 0) (fault ShortBuffer (job_depth b) 0)

-- ---- cell

abbrev pub record_under : Option Signature → ℕ → ℕ → ℕ → Option Record
record_under None s i j = None
record_under (Some g) s i j = position_record (letters_of g) g.sheets s i j

abbrev pub shown_by : Record → Cell
shown_by r = record { page = r.page; mark = mark_numbered r.mark }

-- the page and mark at position (i, j) of side s
abbrev pub cell_at : Book → ℕ → ℕ → ℕ → Result Cell Fault
cell_at b s i j = ok_or (option_map shown_by (cond (nat_le s (sides b)) (record_under b.signature s i j) None)) (fault NoSuch (job_depth b) s)
