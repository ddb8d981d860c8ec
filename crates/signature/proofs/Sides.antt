-- Sides by their numbers, and the fold of the sheets of one signature.
use Rattle.std.proofs.Common.{◌≡◌, ℕ, zero, suc, ◌+◌, ◌-◌, ◌*◌, ◌/◌, ◌%◌, ◌≤◌, ◌∷◌, sym, refl, ap, ◌∙◌, inl, inr, arith}
use Rattle.std.proofs.lemmas.Nat.{div-add-mod', mod-mul-add, div-mul-add}
use Rattle.std.proofs.lemmas.Bool.{cond-true, cond-false, eq-eqb, ne_eqb, cases_lt}
use Rattle.fold.specs.Folding.{Leaf, Grid, named, page_count, piled, stack, read, last}
use Rattle.fold.specs.Walk.{Filling, laid}
use Rattle.fold.specs.Words.{Letters, columns_of, rows_of}
use Rattle.fold.specs.declared.sheets.Mark.{Mark}
use Rattle.fold.specs.declared.sheets.Mark.TheVariants.{Upright, Turned}
use Rattle.fold.specs.declared.sheets.Side.{Side}
use Rattle.fold.specs.declared.sheets.Side.TheVariants.{One, Two}
use Rattle.fold.proofs.Order.{folds_in_order}
use Rattle.pages.specs.declared.maps.Size.{Size}
use Rattle.fold.specs.Sheets.{side_of}
use Rattle.signature.specs.Imposing.{sheets_before, signatures_before, sheet_of, position_map}
use Rattle.signature.specs.Laws.{side_number, mark_of, laid_on, SignaturesFold}

-- ---- a side by its signature, sheet and face, and back

odd_side : (p : ℕ) → p % 2 ≡ 1 → side_of p ≡ One
odd_side p h = cond-true _ _ _ (eq-eqb (p % 2) 1 h)

even_side : (p : ℕ) → p % 2 ≡ 0 → side_of p ≡ Two
even_side p h = cond-false _ _ _ (ne_eqb (p % 2) 1 (λ e. omega arith))

pub side_of_lem : (k g s : ℕ) (side : Side) → side_of (side_number k g s side) ≡ side
side_of_lem k g s One = odd_side (2 * (g * k + (s - 1)) + 1) (omega arith)
side_of_lem k g s Two = even_side (2 * (g * k + (s - 1)) + 2) (omega arith)

sheets_before_lem : (k g s : ℕ) (side : Side) → sheets_before (side_number k g s side) ≡ g * k + (s - 1)
sheets_before_lem k g s One = omega arith
sheets_before_lem k g s Two = omega arith

module _ (k g s : ℕ) (side : Side) (a : 1 ≤ s) (b : s ≤ k) where
  pub signature_of : signatures_before k (side_number k g s side) ≡ g
  signature_of = ap (λ (n : ℕ). n / k) (sheets_before_lem k g s side) ∙ div-mul-add g k (s - 1) (omega arith)

  pub sheet_of_lem : sheet_of k (side_number k g s side) ≡ s
  sheet_of_lem = omega (arith, ap (λ (n : ℕ). n % k) (sheets_before_lem k g s side), mod-mul-add g k (s - 1) (omega arith))

pub numbered : (k p : ℕ) → 1 ≤ p → p ≡ side_number k (signatures_before k p) (sheet_of k p) (side_of p)
numbered k p h =
    let d = div-add-mod' (sheets_before p) k in
    elim (cases_lt (p % 2) 1) [
      | inl e ↦
          let n : p ≡ side_number k (signatures_before k p) (sheet_of k p) Two = omega arith in
          n ∙ ap (side_number k (signatures_before k p) (sheet_of k p)) (sym (even_side p (omega arith)))
      | inr e ↦
          let n : p ≡ side_number k (signatures_before k p) (sheet_of k p) One = omega arith in
          n ∙ ap (side_number k (signatures_before k p) (sheet_of k p)) (sym (odd_side p (omega arith)))
    ]

-- ---- the fold

-- only the sheets of a signature count
piled_alike : (k : ℕ) (f g : ℕ → Leaf) → ((s : ℕ) → 1 ≤ s → s ≤ k → f s ≡ g s) → piled k f ≡ piled k g
piled_alike zero f g e = refl
piled_alike (suc k) f g e = λ i. e (suc k) (omega arith) (omega arith) i ∷ piled_alike k f g (λ s a b. e s a (omega arith)) i

stack_alike : (w : Letters) (k : ℕ) (f g : Filling) → ((s : ℕ) (side : Side) (i j : ℕ) → 1 ≤ s → s ≤ k → f s side i j ≡ g s side i j) → stack w k f ≡ stack w k g
stack_alike w k f g e = λ t. record {
  height = rows_of w;
  width = columns_of w;
  pile = λ i j. piled_alike k (λ s. record { upper = f s Two i j; lower = f s One i (columns_of w + 1 - j) }) (λ s. record { upper = g s Two i j; lower = g s One i (columns_of w + 1 - j) })
      (λ s a b. λ t. record { upper = e s Two i j a b t; lower = e s One i (columns_of w + 1 - j) a b t }) t;
}

mark_is : (z : Size) (r i j : ℕ) (m : Mark) → mark_of (position_map z r i j m) ≡ m
mark_is z r i j Upright = refl
mark_is z r i j Turned = refl

laid_alike : (u : Letters) (k : ℕ) (z : Size) (g s : ℕ) (side : Side) (i j : ℕ) → 1 ≤ s → s ≤ k →
    laid_on u k z g s side i j ≡ named (λ n. g * page_count u k + n) (laid u k) s side i j
laid_alike u k z g s side i j a b =
    let p = side_number k g s side in
    (λ t. record {
      page = signatures_before k p * page_count u k + (laid u k (sheet_of k p) (side_of p) i j).page;
      mark = mark_is z (rows_of u) i j (laid u k (sheet_of k p) (side_of p) i j).mark t;
    })
    ∙ (λ t. record {
      page = signature_of k g s side a b t * page_count u k + (laid u k (sheet_of_lem k g s side a b t) (side_of_lem k g s side t) i j).page;
      mark = (laid u k (sheet_of_lem k g s side a b t) (side_of_lem k g s side t) i j).mark;
    })

pub signatures_fold : SignaturesFold
signatures_fold u k z g =
    ap (λ (x : Grid). read (last u x)) (stack_alike u k (laid_on u k z g) (named (λ n. g * page_count u k + n) (laid u k)) (laid_alike u k z g))
    ∙ folds_in_order u k (λ n. g * page_count u k + n)
