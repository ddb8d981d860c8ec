-- The one reply that the rules give each call.
use Rattle.std.specs.Prelude.{ℕ, ◌+◌, ◌-◌, min, Bool, true, false, cond, List, [], length, Some, None, Ok, Err, Option, Result, nat_le}
use Rattle.pages.specs.Meaning.{fault, size_of, laid_at, place_at, length_at, pour_at}
use Rattle.pages.specs.declared.faults.Fault.{Fault}
use Rattle.pages.specs.declared.faults.Refusal.TheVariants.{ShortBuffer}
use Rattle.runs.specs.Editions.{Edition, depth_of, print_refusal, pull_back, cell_at}
use Rattle.runs.specs.declared.calls.Answer.{Answer}
use Rattle.runs.specs.declared.calls.Answer.TheVariants.{Printed, PulledBack, Opened, Ended, Counted, Shown, Measured, Number, Placed, Poured, Refused}
use Rattle.runs.specs.declared.calls.Call.{Call}
use Rattle.runs.specs.declared.calls.Call.TheVariants.{Print, PullBack, Opening, Ending, HowFar, Cell, Size, Leaves, Pages, Depth, Laid, Place, Length, Pour}

-- an answer, and the text that it speaks of
pub record Reply : Type 0 where
  pub answer : Answer
  pub text : List ℕ

abbrev pub reply : Answer → List ℕ → Reply
reply a t = record { answer = a; text = t }

abbrev pub reply_by : {T : Type 0} → (T → Answer) → Result T Fault → Reply
reply_by f (Ok x) = reply (f x) []
reply_by f (Err e) = reply (Refused e) []

abbrev pub print_reply : List ℕ → Option Fault → Reply
print_reply text None = reply (Printed (length text)) text
print_reply text (Some f) = reply (Refused f) []

abbrev pub pull_reply : ℕ → Result (Unit {0}) Fault → Reply
pull_reply s (Ok x) = reply (PulledBack s) []
pull_reply s (Err f) = reply (Refused f) []

-- a text that is written whole, or does not fit
abbrev pub text_reply : (ℕ → Answer) → List ℕ → ℕ → ℕ → Reply
text_reply f text depth room = cond (nat_le (length text) room) (reply (f (length text)) text) (reply (Refused (fault ShortBuffer depth 0)) [])

abbrev pub pour_reply : List ℕ → Result ℕ Fault → Reply
pour_reply ink (Ok end) = reply (Poured end) ink
pour_reply ink (Err f) = reply (Refused f) []

-- the reply to a call where n sides stand printed, the buffer has `room` bytes and the plan list `list` records
abbrev pub reply_to : Edition → ℕ → ℕ → ℕ → Call → Reply
reply_to b room list n (Print most) = print_reply (b.text (n + 1)) (print_refusal b (min most room) list n)
reply_to b room list n (PullBack s) = pull_reply s (pull_back b n s)
reply_to b room list n (Opening most) = text_reply Opened b.opening (depth_of b) (min most room)
reply_to b room list n (Ending most) = text_reply Ended b.ending (depth_of b) (min most room)
reply_to b room list n HowFar = reply (Counted n) []
reply_to b room list n (Cell s i j) = reply_by Shown (cell_at b s i j)
reply_to b room list n Size = reply (Measured (size_of b.layer)) []
reply_to b room list n Leaves = reply (Number b.layer.leaves) []
reply_to b room list n Pages = reply (Number b.layer.pages) []
reply_to b room list n Depth = reply (Number b.layer.depth) []
reply_to b room list n (Laid p) = reply_by Number (laid_at b.layer p)
reply_to b room list n (Place p s) = reply_by Placed (place_at b.layer p s)
reply_to b room list n (Length l) = reply_by Number (length_at b.layer l)
reply_to b room list n (Pour l at most) = pour_reply (b.layer.ink l) (pour_at b.layer l (min most room) at)

-- how many bytes of the buffer, from its start, a call may use
abbrev pub room_of : Call → ℕ
room_of (Print most) = most
room_of (PullBack s) = 0
room_of (Opening most) = most
room_of (Ending most) = most
room_of HowFar = 0
room_of (Cell s i j) = 0
room_of Size = 0
room_of Leaves = 0
room_of Pages = 0
room_of Depth = 0
room_of (Laid p) = 0
room_of (Place p s) = 0
room_of (Length l) = 0
room_of (Pour l at most) = most

-- where the text of a call begins in the buffer
abbrev pub start_of : Call → ℕ
start_of (Print most) = 0
start_of (PullBack s) = 0
start_of (Opening most) = 0
start_of (Ending most) = 0
start_of HowFar = 0
start_of (Cell s i j) = 0
start_of Size = 0
start_of Leaves = 0
start_of Pages = 0
start_of Depth = 0
start_of (Laid p) = 0
start_of (Place p s) = 0
start_of (Length l) = 0
start_of (Pour l at most) = at

-- an accepted print adds one to the sides that stand printed, an accepted pull-back to side s leaves s - 1, and nothing else
-- changes their number
abbrev pub after : ℕ → Answer → ℕ
after n (Printed len) = n + 1
after n (PulledBack s) = s - 1
after n (Opened len) = n
after n (Ended len) = n
after n (Counted c) = n
after n (Shown x) = n
after n (Measured z) = n
after n (Number x) = n
after n (Placed p) = n
after n (Poured end) = n
after n (Refused f) = n

abbrev pub is_print : Answer → Bool
is_print (Printed len) = true
is_print (PulledBack s) = false
is_print (Opened len) = false
is_print (Ended len) = false
is_print (Counted c) = false
is_print (Shown x) = false
is_print (Measured z) = false
is_print (Number x) = false
is_print (Placed p) = false
is_print (Poured end) = false
is_print (Refused f) = false
