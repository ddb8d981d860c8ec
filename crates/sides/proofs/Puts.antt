-- What a lent buffer holds after a text.
use Rattle.std.proofs.Common.{◌≡◌, ℕ, ◌+◌, ◌^◌, ◌<◌, Bool, true, false, leb, List, length, None, sym, arith}
use Rattle.std.proofs.lemmas.Bool.{cond-false, lt-leb}
use Rattle.pages.specs.Meaning.{written}
use Rattle.text.specs.Pieces.{place_after}
use Rattle.text.specs.Sinks as sink
use Rattle.text.specs.declared.sinks.Counter.{Counter}
use Rattle.text.specs.declared.sinks.Lent.{Lent}
use Rattle.sides.specs.Puts.{Begun, Whole}

-- a count of a text that a count can reach
pub counted : (s t : Counter) (text : List ℕ) (fit : Bool) → s.count ≡ 0 → length text < 2 ^ 64 → sink.Counted s text fit t → t.count ≡ length text
counted s t text true z h p = omega arith
counted s t text false z h p = absurd (omega arith)

module _ (s t : Lent) (text : List ℕ) where
  pub whole : sink.Whole s text t → Whole s.buffer.now s.at text t.buffer.now t.at
  whole p = record { fits = p.fits; holds = p.holds; ends = p.ends }

  pub begun : sink.Begun s text t → Begun s.buffer.now s.at text t.buffer.now
  begun p = record { short = p.short; front = p.front; rest = p.rest; parts = p.parts; holds = p.holds }

module _ (text b : List ℕ) (at : ℕ) where
  -- a text that does not fit and is not begun
  pub unfit : length b < at + length text → (None ≡ place_after text (length b) at) × (b ≡ written text b at)
  unfit h =
      let e = lt-leb (at + length text) (length b) h in
      (sym (cond-false (leb (at + length text) (length b)) _ _ e), sym (cond-false (leb (at + length text) (length b)) _ _ e))
