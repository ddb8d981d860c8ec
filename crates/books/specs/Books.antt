-- A whole book: its opening, its sides and its ending, one after the other.
use Rattle.std.specs.Prelude.{◌≡◌, ℕ, ◌*◌, ◌≤◌, List, [], ◌∷◌, ◌++◌, replicate, Some, Ok, Err, vec_items, Result}
use Rattle.std.specs.List.{range_with_len, flat_map}
use Rattle.fold.specs.Words.{Letters, scheme}
use Rattle.pages.specs.Meaning.{Meaning}
use Rattle.signature.specs.Imposing.{sides_of}
use Rattle.signature.specs.declared.imposition.Scheme.{Scheme}
use Rattle.sides.specs.Texts.{ending_text, opening_of, side_text}
use Rattle.plan.specs.Folds.{FoldsUp}
use Rattle.plan.specs.Records.{plan_to}
use Rattle.runs.specs.Law.{sheets_over}
use Rattle.runs.specs.declared.calls.Call.{Call}
use Rattle.runs.specs.declared.calls.Call.TheVariants.{Print, Opening, Ending}
use Rattle.runs.specs.declared.log.Entry.{Entry}
use Rattle.runs.specs.declared.log.Log.{Log}
use Rattle.runs.specs.declared.run.Stop.{Stop}
use Rattle.runs.specs.declared.run.Stop.TheVariants.{Refused, NoMemory}
use Rattle.books.specs.Runs.{OrderRefused}
use Rattle.books.specs.declared.output.Output.{Output}

-- the text of the book that signatures of k sheets, folded by the word u, make of the source m
abbrev pub book_text : Letters → ℕ → Meaning → List ℕ
book_text u k m = opening_of (sheets_over u k m) ++ (flat_map (side_text u k m) (range_with_len 1 (sides_of u k m.pages)) ++ ending_text)

-- the calls that print a book of n sides, each with so many bytes of room
abbrev pub book_calls : ℕ → ℕ → List Call
book_calls n room = (Opening room ∷ replicate n (Print room)) ++ Ending room ∷ []

-- the texts of a log, one after the other
abbrev pub text_of : Entry → List ℕ
text_of e = vec_items e.text

abbrev pub log_text : Log → List ℕ
log_text l = flat_map text_of (vec_items l.entries)

pub record Whole (o : Scheme) (m : Meaning) (x : Output) : Type 0 where
  pub word : Letters
  pub named : scheme o.number ≡ Some word
  -- what was printed is the book
  pub text : log_text x.log ≡ book_text word o.sheets m
  -- the plan has the records of all its sides, and of nothing else
  pub plan : vec_items x.plan ≡ plan_to word o.sheets (sides_of word o.sheets m.pages)
  pub printed : x.printed ≡ sides_of word o.sheets m.pages
  -- each of its signatures, stacked from the records of the plan and folded, reads its own pages in rising order, upright
  pub folds : (g : ℕ) → 1 ≤ g → g * (2 * o.sheets) ≤ x.printed → FoldsUp word o.sheets (vec_items x.plan) g

-- the whole book is printed, unless its order is refused or memory is wanting
abbrev pub BookPrinted : Scheme → Meaning → Result Output Stop → Type 0
BookPrinted o m (Ok x) = Whole o m x
BookPrinted o m (Err (Refused f)) = OrderRefused o m f
BookPrinted o m (Err (NoMemory e)) = Unit {0}
