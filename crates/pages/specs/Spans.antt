-- Where inks lie in a file, and how an index says so.
use Rattle.std.specs.Prelude.{ℕ, ◌+◌, ◌*◌, cond, List, [], ◌∷◌, Ok, Err, Result, nat_le}
use Rattle.pages.specs.Meaning.{fault}
use Rattle.pages.specs.declared.faults.Fault.{Fault}
use Rattle.pages.specs.declared.faults.Refusal.TheVariants.{ShortBuffer}
use Rattle.pages.specs.declared.spans.Span.{Span}

-- the numbers of an ink in an index; those of leaf l stand at 2 l and 2 l + 1
abbrev pub pair : Span → List ℕ
pair s = s.offset ∷ s.length ∷ []

-- the answer to writing the pair of a leaf into an index of n numbers
abbrev pub put_answer : ℕ → ℕ → Result (Unit {0}) Fault
put_answer leaf n = cond (nat_le (2 * leaf + 2) n) (Ok tt) (Err (fault ShortBuffer 1 0))
