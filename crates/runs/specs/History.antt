-- A history of calls, and what stands after it.
use Rattle.std.specs.Prelude.{◌≡◌, ℕ, ◌+◌, ◌*◌, ◌≤◌, max, cond, ◌&&◌, List, [], ◌∷◌, ◌++◌, length, drop, Some, None, Option, ◌==◌}
use Rattle.pages.specs.Splice.{splice}
use Rattle.plan.specs.declared.record.Record.{Record}
use Rattle.runs.specs.Editions.{Edition, State, plan_of}
use Rattle.runs.specs.Replies.{Reply, reply_to, after, is_print, start_of}
use Rattle.runs.specs.declared.calls.Call.{Call}

-- a call and its reply
pub record Event : Type 0 where
  pub call : Call
  pub reply : Reply

abbrev pub event : Call → Reply → Event
event c y = record { call = c; reply = y }

-- A history lists events, the newest first.

-- the sides that stand printed after it
abbrev pub count : List Event → ℕ
count [] = 0
count (e ∷ es) = after (count es) e.reply.answer

-- the most that ever stood printed
abbrev pub reach : List Event → ℕ
reach [] = 0
reach (e ∷ es) = max (reach es) (count (e ∷ es))

-- the text last printed for side s
abbrev pub last_text : ℕ → List Event → Option (List ℕ)
last_text s [] = None
last_text s (e ∷ es) = cond (is_print e.reply.answer && count es + 1 == s) (Some e.reply.text) (last_text s es)

-- the edition in force after it: no call alters it
abbrev pub edition_after : Edition → List Event → Edition
edition_after e es = e

-- each call got the reply that the rules give it after the calls before
abbrev pub Answered : Edition → ℕ → ℕ → List Event → Type 0
Answered b room list [] = Unit {0}
Answered b room list (e ∷ es) = (e.reply ≡ reply_to (edition_after b es) room list (count es) e.call) × Answered b room list es

-- what the buffer holds after it: each text where its call begins, one over the other
abbrev pub buffer_after : List ℕ → List Event → List ℕ
buffer_after buffer [] = buffer
buffer_after buffer (e ∷ es) = splice (buffer_after buffer es) (start_of e.call) e.reply.text

-- the calls of a history, the first first
abbrev pub calls_of : List Event → List Call
calls_of [] = []
calls_of (e ∷ es) = calls_of es ++ (e.call ∷ [])

-- what one call does in the state x, and leaves
pub record Performed (b : Edition) (c : Call) (x x' : State) (y : Reply) : Type 0 where
  pub replied : y ≡ reply_to b (length x.buffer) (length x.plan) x.printed c
  pub counts : x'.printed ≡ after x.printed y.answer
  pub writes : x'.buffer ≡ splice x.buffer (start_of c) y.text
  pub plans : x'.plan ≡ cond (is_print y.answer) (splice x.plan (x.printed * b.per) (b.records (x.printed + 1))) x.plan

-- x stands after the history es, of calls that found `buffer` and `plan`
pub record Stands (b : Edition) (buffer : List ℕ) (plan : List Record) (x : State) (es : List Event) : Type 0 where
  pub counted : x.printed ≡ count es
  pub within : reach es ≤ b.sides
  pub fits : reach es * b.per ≤ length plan
  pub filled : x.plan ≡ plan_of b (reach es) ++ drop (reach es * b.per) plan
  pub printed : (s : ℕ) → 1 ≤ s → s ≤ x.printed → last_text s es ≡ Some (b.text s)
  pub answered : Answered b (length buffer) (length plan) es
  pub held : x.buffer ≡ buffer_after buffer es
  pub room : length x.buffer ≡ length buffer
  pub list : length x.plan ≡ length plan
