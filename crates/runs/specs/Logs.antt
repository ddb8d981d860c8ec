-- A log as a history, and what a run of calls keeps.
use Rattle.std.specs.Prelude.{◌≡◌, ℕ, List, [], ◌∷◌, ◌++◌, Ok, Err, vec_items, Result}
use Rattle.plan.specs.declared.record.Record.{Record}
use Rattle.runs.specs.Editions.{Edition, State}
use Rattle.runs.specs.History.{Event, event, Stands, calls_of}
use Rattle.runs.specs.Replies.{reply}
use Rattle.runs.specs.declared.calls.Call.{Call}
use Rattle.runs.specs.declared.log.Entry.{Entry}
use Rattle.runs.specs.declared.log.Log.{Log}

abbrev pub event_of : Entry → Event
event_of x = event x.call (reply x.answer (vec_items x.text))

-- a log has its first entry first, a history its newest
abbrev pub backwards : List Entry → List Event
backwards [] = []
backwards (x ∷ xs) = backwards xs ++ (event_of x ∷ [])

abbrev pub history : Log → List Event
history l = backwards (vec_items l.entries)

-- an event was added, or memory was wanting and nothing was
abbrev pub Noted : {T E : Type 0} → List Event → Event → List Event → Result T E → Type 0
Noted es e es' (Ok x) = es' ≡ e ∷ es
Noted es e es' (Err x) = es' ≡ es

-- what stood after the history es, whatever buffer and plan its calls found, stands after es'
abbrev pub Kept : Edition → State → List Event → State → List Event → Type 0
Kept b x es x' es' = (buffer : List ℕ) (plan : List Record) → Stands b buffer plan x es → Stands b buffer plan x' es'

-- the calls cs were carried out and noted
pub record Whole (b : Edition) (x : State) (es : List Event) (cs : List Call) (x' : State) (es' : List Event) : Type 0 where
  pub kept : Kept b x es x' es'
  pub calls : calls_of es' ≡ calls_of es ++ cs

-- some of the calls cs were carried out, and all of those but the last were noted
pub record Broken (b : Edition) (x : State) (es : List Event) (cs : List Call) (x' : State) (es' : List Event) : Type 0 where
  pub last : Event
  pub rest : List Call
  pub kept : Kept b x es x' (last ∷ es')
  pub calls : calls_of es ++ cs ≡ calls_of (last ∷ es') ++ rest

abbrev pub Carried : {T E : Type 0} → Edition → State → List Event → List Call → State → List Event → Result T E → Type 0
Carried b x es cs x' es' (Ok r) = Whole b x es cs x' es'
Carried b x es cs x' es' (Err r) = Broken b x es cs x' es'
