-- Every text of a book fits a buffer as long as the longest of them.
use Rattle.std.proofs.Common.{◌≡◌, ℕ, zero, suc, ◌*◌, ◌<◌, ◌≤◌, List, length, Some, Option, sym, ap, ◌∙◌, subst, ⊎_elim, arith}
use Rattle.std.proofs.lemmas.Bool.{cases_lt}
use Rattle.fold.specs.Signatures.{letters_of}
use Rattle.fold.specs.Words.{Letters, cells}
use Rattle.fold.specs.declared.signature.Signature.{Signature}
use Rattle.pages.specs.Meaning.{Lawful, Meaning}
use Rattle.layers.specs.declared.extent.Extent.{Extent}
use Rattle.signature.specs.Imposing.{sides_of}
use Rattle.signature.specs.declared.imposition.Imposition.{Imposition}
use Rattle.signature.specs.declared.imposition.Scheme.{Scheme}
use Rattle.sides.specs.Texts.{ending_text, opening_of, side_text}
use Rattle.job.specs.Books.{Book, book_of, longest, per_side, sheets, side_printed, sides}
use Rattle.runs.specs.Law.{sheets_over}
use Rattle.runs.proofs.Agreeing.{opening_alike, text_alike}
use Rattle.runs.proofs.Running.{Ordered, accepted}

-- n sides of signatures of k sheets, folded by the word u, with the opening and the ending, fit `room` bytes each, and their
-- records a list of `list`
pub record Fits (u : Letters) (k : ℕ) (m : Meaning) (room list n : ℕ) : Type 0 where
  pub sides : n ≡ sides_of u k m.pages
  pub opening : length (opening_of (sheets_over u k m)) ≤ room
  pub ending : length ending_text ≤ room
  pub texts : (s : ℕ) → 1 ≤ s → s ≤ n → length (side_text u k m s) ≤ room
  pub records : list ≡ n * cells u

longest_opening : (b : Book) (n : ℕ) → length (opening_of (sheets b)) ≤ longest b n
longest_opening b zero = omega arith
longest_opening b (suc n) = omega (arith, longest_opening b n)

longest_ending : (b : Book) (n : ℕ) → length ending_text ≤ longest b n
longest_ending b zero = omega arith
longest_ending b (suc n) = omega (arith, longest_ending b n)

longest_side : (b : Book) (n s : ℕ) → 1 ≤ s → s ≤ n → length (side_printed b s) ≤ longest b n
longest_side b zero s l h = absurd (omega arith)
longest_side b (suc n) s l h =
    ⊎_elim
    (λ (e : n < s). let i : s ≡ suc n = omega arith in omega (arith, ap (λ j. length (side_printed b j)) i))
    (λ (e : s ≤ n). omega (arith, longest_side b n s l e))
    (cases_lt n s)

module _ (o : Scheme) (m : Meaning) (law : Lawful m) (rule : Imposition) (x : Extent) (laid : Ordered o m rule x) where
  abbrev g : Signature
  g = laid.taken.signature

  fits_some : (room list n : ℕ) → room ≡ longest (book_of (Some g) m x) x.pages → list ≡ x.pages * cells (letters_of g) → n ≡ x.pages → Fits (letters_of g) g.sheets m room list n
  fits_some room list n r l e =
      let a = accepted o m law rule x laid in
      let b = book_of (Some g) m x in
      record {
        sides = e ∙ laid.taken.sides;
        opening =
            subst (λ (z : List ℕ). length z ≤ room) (opening_alike g m x law a laid.taken.size) (omega (arith, longest_opening b x.pages));
        ending = omega (arith, longest_ending b x.pages);
        texts = λ s low high.
            subst (λ (z : List ℕ). length z ≤ room) (text_alike g m x law a laid.taken.size s low (omega arith)) (omega (arith, longest_side b x.pages s low (omega arith)));
        records = l ∙ ap (λ j. j * cells (letters_of g)) (sym e);
      }

  pub fits : (b : Book) → b ≡ book_of rule.signature m x → (room list n : ℕ) → room ≡ longest b (sides b) → list ≡ sides b * per_side b → n ≡ sides b → Fits (letters_of g) o.sheets m room list n
  fits b same room list n r l e =
      let q : b ≡ book_of (Some g) m x = same ∙ ap (λ (z : Option Signature). book_of z m x) laid.taken.made in
      subst (λ (z : ℕ). Fits (letters_of g) z m room list n) laid.taken.sheets
      (fits_some room list n (r ∙ ap (λ (z : Book). longest z (sides z)) q) (l ∙ ap (λ (z : Book). sides z * per_side z) q) (e ∙ ap sides q))
