-- A run over an accepted order.
use Rattle.std.proofs.Common.{◌≡◌, ℕ, List, [], ◌∷◌, ◌++◌, Option, sym, ap, ◌∙◌, subst}
use Rattle.fold.specs.Signatures.{letters_of}
use Rattle.fold.specs.declared.signature.Signature.{Signature}
use Rattle.pages.specs.Meaning.{Lawful, Meaning}
use Rattle.layers.specs.Layering.{Below, Exact}
use Rattle.layers.specs.Orders.{Laid}
use Rattle.layers.specs.declared.extent.Extent.{Extent}
use Rattle.signature.specs.Imposing.{Imposed, impose_shows}
use Rattle.signature.specs.declared.imposition.Imposition.{Imposition}
use Rattle.signature.specs.declared.imposition.Scheme.{Scheme}
use Rattle.sides.specs.Laws.{Accepted}
use Rattle.job.specs.Books.{book_of}
use Rattle.plan.specs.declared.record.Record.{Record}
use Rattle.runs.specs.Editions.{Edition, State, state}
use Rattle.runs.specs.History.{Event, Stands, calls_of}
use Rattle.runs.specs.Jobs.{edition}
use Rattle.runs.specs.Law.{Law}
use Rattle.runs.specs.Logs.{Broken, Kept, Whole}
use Rattle.runs.specs.Runs.{Finished, Stopped}
use Rattle.runs.specs.declared.calls.Call.{Call}
use Rattle.runs.proofs.Agreeing.{law_of}
use Rattle.runs.proofs.Histories.{stands_new}

abbrev pub Ordered : Scheme → Meaning → Imposition → Extent → Type 0
Ordered o m rule x = Laid {R = Imposition} (λ r. impose_shows r.signature) (λ r y. Imposed o.number o.sheets m r.signature y) m rule x

module _ (o : Scheme) (m : Meaning) (law : Lawful m) (rule : Imposition) (x : Extent) (laid : Ordered o m rule x) where
  abbrev g : Signature
  g = laid.taken.signature

  pub accepted : Accepted (letters_of g) g.sheets m x
  accepted =
      let made = laid.taken.made in
      record {
        sides = laid.taken.sides;
        exact = subst (λ (z : Option Signature). Exact (impose_shows z m) x.pages m) made laid.exact;
        below = subst (λ (z : Option Signature). Below (impose_shows z m) x.pages m) made laid.taken.below;
      }

  stands_law : {b : List ℕ} {p : List Record} {y : State} {es : List Event}
      → Stands (edition (book_of rule.signature m x)) b p y es → Law (letters_of g) o.sheets m b p y.printed y.buffer y.plan es
  stands_law {b} {p} {y} {es} st =
      subst (λ (z : ℕ). Law (letters_of g) z m b p y.printed y.buffer y.plan es) laid.taken.sheets
      (law_of g m x law accepted laid.taken.size
      (subst (λ (z : Option Signature). Stands (edition (book_of z m x)) b p y es) laid.taken.made st))

  module _ (k : Edition) (same : k ≡ edition (book_of rule.signature m x)) {n : ℕ} (new : n ≡ 0) (es : List Event) (none : es ≡ []) {b : List ℕ} {p : List Record} {y : State} where
    from_new : (es' : List Event) → Kept k (state n b p) es y es' → Law (letters_of g) o.sheets m b p y.printed y.buffer y.plan es'
    from_new es' kept =
        stands_law (subst (λ (z : Edition). Stands z b p y es') same
        (kept b p (subst (λ (z : ℕ). Stands k b p (state z b p) es) (sym new) (subst (λ (z : List Event). Stands k b p (state 0 b p) z) (sym none) (stands_new k b p)))))

    pub finished : {cs : List Call} (es' : List Event) → Whole k (state n b p) es cs y es' → Finished o m cs b y.buffer p y.plan y.printed es'
    finished {cs} es' h = record {
      word = letters_of g;
      named = laid.taken.word;
      law = from_new es' h.kept;
      calls = h.calls ∙ ap (λ z. calls_of z ++ cs) none;
    }

    pub stopped : {cs : List Call} (es' : List Event) → Broken k (state n b p) es cs y es' → Stopped o m cs b y.buffer p y.plan
    stopped {cs} es' h = record {
      word = letters_of g;
      named = laid.taken.word;
      count = y.printed;
      events = h.last ∷ es';
      rest = h.rest;
      law = from_new (h.last ∷ es') h.kept;
      calls = sym (ap (λ z. calls_of z ++ cs) none) ∙ h.calls;
    }
