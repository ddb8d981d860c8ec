-- What load answers, by whether the index begins with the numbers of the file.
use Rattle.std.proofs.Common.{◌≡◌, ℕ, false, List, length, take, Ok, Err, sym, ap, ◌∙◌, ⊎_elim}
use Rattle.std.specs.Str.{bytes_eq}
use Rattle.std.proofs.lemmas.Slice.Eq.{bytes_eq-Decides}
use Rattle.std.proofs.lemmas.Bool.{cond-true, cond-false, cases_Bool}
use Rattle.pages.specs.declared.faults.Refusal.TheVariants.{WrongIndex}
use Rattle.pages.specs.Meaning.{fault}
use Rattle.dsc.specs.Scans.{Read}
use Rattle.dsc.specs.Readers.{load_answer}

not_same : (xs ys : List ℕ) → (xs ≡ ys → ⊥) → bytes_eq xs ys ≡ false
not_same xs ys n = ⊎_elim (λ t. absurd (n ((bytes_eq-Decides xs ys).0 t))) (λ f. f) (cases_Bool (bytes_eq xs ys))

module _ (o : Read) (index : List ℕ) (k : ℕ) (long : length o.index ≡ k) where
  pub differs : (take k index ≡ o.index → ⊥) → load_answer (Ok o) index ≡ Err (fault WrongIndex 1 0)
  differs n = cond-false _ _ _ (not_same (take (length o.index) index) o.index (λ e. n (ap (λ m. take m index) (sym long) ∙ e)))

  pub agrees : take k index ≡ o.index → load_answer (Ok o) index ≡ Ok o.leaves
  agrees e = cond-true _ _ _ ((bytes_eq-Decides (take (length o.index) index) o.index).1 (ap (λ m. take m index) long ∙ e))
