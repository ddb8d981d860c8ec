-- A printer at work, the answer of a call, where its text lies in the buffer, and what the call did.
use Rattle.std.specs.Prelude.{◌≡◌, ℕ, ◌≤◌, length, Ok, Err, Result, slice_range}
use Rattle.pages.specs.declared.faults.Fault.{Fault}
use Rattle.runs.specs.Editions.{Edition, State, state}
use Rattle.runs.specs.History.{Performed}
use Rattle.runs.specs.Replies.{reply}
use Rattle.runs.specs.declared.calls.Answer.{Answer}
use Rattle.runs.specs.declared.calls.Answer.TheVariants.{Refused}
use Rattle.runs.specs.declared.calls.Call.{Call}
use Rattle.runs.specs.declared.done.Done.{Done}
use Rattle.runs.specs.declared.session.Session.{Session}

-- an answer that speaks of no text
abbrev pub silently : Answer → Done
silently a = record { answer = a; text = record { start = 0; end = 0 } }

-- a text was written from place `at` on, which `say` answers, or it was refused
abbrev pub Said : (ℕ → Answer → Type 0) → ℕ → Result ℕ Fault → Done → Type 0
Said say at (Ok end) r = say end r.answer × (r.text.start ≡ at) × (r.text.end ≡ end)
Said say at (Err f) r = r ≡ silently (Refused f)

-- an answer that `say` gives, or a refusal: neither speaks of a text
abbrev pub Told : {T : Type 0} → (T → Answer → Type 0) → Result T Fault → Done → Type 0
Told say (Ok x) r = say x r.answer × (r ≡ silently r.answer)
Told say (Err f) r = r ≡ silently (Refused f)

-- the call did what the rules say, and its text lies in the buffer
pub record Does (b : Edition) (c : Call) (x x' : State) (r : Done) : Type 0 where
  pub within : (r.text.start ≤ r.text.end) × (r.text.end ≤ length x.buffer)
  pub performed : Performed b c x x' (reply r.answer (slice_range x'.buffer r.text.start r.text.end))

-- a buffer and a plan list stay as long
abbrev pub Sized : State → State → Type 0
Sized x x' = (length x'.buffer ≡ length x.buffer) × (length x'.plan ≡ length x.plan)

-- what stands at a session, whose printer has printed so many sides
abbrev pub state_of : {P : Type 0} → (P → ℕ) → Session P → State
state_of printed s = state (printed s.printer.now) s.buffer.now s.plan.now

-- that a session has the printer, the buffer and the plan list of another
abbrev pub Lent : {P : Type 0} → Session P → Session P → Type 0
Lent s s' = (s'.printer.ghost_name ≡ s.printer.ghost_name) × (s'.buffer.ghost_name ≡ s.buffer.ghost_name) × (s'.plan.ghost_name ≡ s.plan.ghost_name)
