-- What a run answers.
use Rattle.std.specs.Prelude.{◌≡◌, ℕ, List, ◌++◌, Some, Ok, Err, Result}
use Rattle.fold.specs.Words.{Letters, scheme}
use Rattle.pages.specs.Meaning.{Meaning}
use Rattle.pages.specs.declared.faults.Fault.{Fault}
use Rattle.layers.specs.Orders as orders
use Rattle.signature.specs.Imposing.{Imposed, impose_objects, impose_shows}
use Rattle.signature.specs.declared.imposition.Imposition.{Imposition}
use Rattle.signature.specs.declared.imposition.Scheme.{Scheme}
use Rattle.plan.specs.declared.record.Record.{Record}
use Rattle.runs.specs.History.{Event, calls_of}
use Rattle.runs.specs.Law.{Law}
use Rattle.runs.specs.declared.calls.Call.{Call}
use Rattle.runs.specs.declared.run.Stop.{Stop}
use Rattle.runs.specs.declared.run.Stop.TheVariants.{Refused, NoMemory}

-- all calls cs were carried out: n sides stand printed, and es is what was called and answered
pub record Finished (o : Scheme) (m : Meaning) (cs : List Call) (b b' : List ℕ) (p p' : List Record) (n : ℕ) (es : List Event) : Type 0 where
  pub word : Letters
  pub named : scheme o.number ≡ Some word
  pub law : Law word o.sheets m b p n b' p' es
  pub calls : calls_of es ≡ cs

-- memory was wanting: some of the calls cs, from the first on, were carried out, and the law stands after those
pub record Stopped (o : Scheme) (m : Meaning) (cs : List Call) (b b' : List ℕ) (p p' : List Record) : Type 0 where
  pub word : Letters
  pub named : scheme o.number ≡ Some word
  pub count : ℕ
  pub events : List Event
  pub rest : List Call
  pub law : Law word o.sheets m b p count b' p' events
  pub calls : cs ≡ calls_of events ++ rest

-- the order is refused, and nothing is altered
pub record Unordered (o : Scheme) (m : Meaning) (b b' : List ℕ) (p p' : List Record) (f : Fault) : Type 0 where
  pub refused : orders.Refused {R = Imposition} (λ r. impose_shows r.signature) (impose_objects o.number o.sheets m) (λ r x. Imposed o.number o.sheets m r.signature x) m f
  pub buffer : b' ≡ b
  pub plan : p' ≡ p

abbrev pub Ran : {T : Type 0} → Scheme → Meaning → List Call → List ℕ → List ℕ → List Record → List Record → (T → ℕ) → (T → List Event) → Result T Stop → Type 0
Ran o m cs b b' p p' printed log (Ok x) = Finished o m cs b b' p p' (printed x) (log x)
Ran o m cs b b' p p' printed log (Err (Refused f)) = Unordered o m b b' p p' f
Ran o m cs b b' p p' printed log (Err (NoMemory e)) = Stopped o m cs b b' p p'
