-- What the two kinds of sinks hold after the bytes of a text.
use Rattle.std.specs.Prelude.{◌≡◌, ℕ, ◌+◌, ◌^◌, ◌<◌, ◌≤◌, Bool, true, false, List, ◌++◌, length}
use Rattle.pages.specs.Splice.{splice}
use Rattle.text.specs.declared.sinks.Counter.{Counter}
use Rattle.text.specs.declared.sinks.Lent.{Lent}

-- The count goes up by the text's length; one that a count cannot reach does not fit, and
-- nothing that was counted is forgotten.
abbrev pub Counted : Counter → List ℕ → Bool → Counter → Type 0
Counted before text true after = after.count ≡ before.count + length text
Counted before text false after = (2 ^ 64 ≤ before.count + length text) × (before.count ≤ after.count)

-- All of a text was written from the place on, and the place is now the one after it.
pub record Whole (before : Lent) (text : List ℕ) (after : Lent) : Type 0 where
  pub fits : before.at + length text ≤ length before.buffer.now
  pub holds : after.buffer.now ≡ splice before.buffer.now before.at text
  pub ends : after.at ≡ before.at + length text
  pub same : after.buffer.ghost_name ≡ before.buffer.ghost_name

-- The text reaches past the buffer's end, and a front of it and nothing else was written from the place on;
-- the place is the one after that.
pub record Begun (before : Lent) (text : List ℕ) (after : Lent) : Type 0 where
  pub short : length before.buffer.now < before.at + length text
  pub front : List ℕ
  pub rest : List ℕ
  pub parts : text ≡ front ++ rest
  pub holds : after.buffer.now ≡ splice before.buffer.now before.at front
  pub ends : after.at ≡ before.at + length front
  pub same : after.buffer.ghost_name ≡ before.buffer.ghost_name

abbrev pub Filled : Lent → List ℕ → Bool → Lent → Type 0
Filled before text true after = Whole before text after
Filled before text false after = Begun before text after
