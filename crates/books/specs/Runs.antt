-- What a run with a buffer and a plan list of its own leaves.
use Rattle.std.specs.Prelude.{◌≡◌, ℕ, List, length, Ok, Err, vec_items, Result}
use Rattle.pages.specs.Meaning.{Meaning}
use Rattle.pages.specs.declared.faults.Fault.{Fault}
use Rattle.layers.specs.Orders as orders
use Rattle.signature.specs.Imposing.{Imposed, impose_objects, impose_shows}
use Rattle.signature.specs.declared.imposition.Imposition.{Imposition}
use Rattle.signature.specs.declared.imposition.Scheme.{Scheme}
use Rattle.plan.specs.declared.record.Record.{Record}
use Rattle.runs.specs.Logs.{history}
use Rattle.runs.specs.Runs.{Finished}
use Rattle.runs.specs.declared.calls.Call.{Call}
use Rattle.runs.specs.declared.run.Stop.{Stop}
use Rattle.runs.specs.declared.run.Stop.TheVariants.{Refused, NoMemory}
use Rattle.books.specs.declared.output.Output.{Output}

-- the calls cs were carried out over a buffer of `room` bytes and a plan list of `list` records, whatever they held first
pub record Carried (o : Scheme) (m : Meaning) (cs : List Call) (room list : ℕ) (x : Output) : Type 0 where
  pub buffer : List ℕ
  pub plan : List Record
  pub after : List ℕ
  pub bytes : length buffer ≡ room
  pub records : length plan ≡ list
  pub kept : length (vec_items x.plan) ≡ list
  -- and the law of print runs stands
  pub finished : Finished o m cs buffer after plan (vec_items x.plan) x.printed (history x.log)

-- the order is refused
abbrev pub OrderRefused : Scheme → Meaning → Fault → Type 0
OrderRefused o m f = orders.Refused {R = Imposition} (λ r. impose_shows r.signature) (impose_objects o.number o.sheets m) (λ r x. Imposed o.number o.sheets m r.signature x) m f

abbrev pub CarriedOut : Scheme → Meaning → List Call → ℕ → ℕ → Result Output Stop → Type 0
CarriedOut o m cs room list (Ok x) = Carried o m cs room list x
CarriedOut o m cs room list (Err (Refused f)) = OrderRefused o m f
CarriedOut o m cs room list (Err (NoMemory e)) = Unit {0}
