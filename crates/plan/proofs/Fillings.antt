-- A plan fills the sheets as the signature does.
use Rattle.std.proofs.Common.{◌≡◌, ℕ, zero, suc, ◌+◌, ◌-◌, ◌*◌, ◌/◌, ◌%◌, ◌<◌, ◌≤◌, Bool, true, false, List, ◌++◌, drop, Some, None, sym, refl, ap, ◌∙◌, ⊎_elim, mul_assoc, suc-mul, mul_comm, arith}
use Rattle.std.proofs.lemmas.Nat.{div-add-mod', div-mul-add, mod-mul-add, mul-add-lt}
use Rattle.std.proofs.lemmas.List.{take-append-drop}
use Rattle.std.proofs.lemmas.Bool.{cases_eq, eqb-true, eq-eqb, and_parts, and_from}
use Rattle.fold.specs.Folding.{page_count, read, named}
use Rattle.fold.specs.Sheets.{mark_number, side_number, side_of}
use Rattle.fold.specs.Walk.{laid}
use Rattle.fold.specs.Words.{Letters, cells, columns_of, rows_of}
use Rattle.fold.specs.declared.sheets.Mark.{Mark}
use Rattle.fold.specs.declared.sheets.Mark.TheVariants.{Upright, Turned}
use Rattle.fold.specs.declared.sheets.Side.{Side}
use Rattle.fold.specs.declared.sheets.Side.TheVariants.{One, Two}
use Rattle.fold.proofs.Order.{folds_in_order}
use Rattle.pages.specs.declared.maps.Size.{Size}
use Rattle.signature.specs.Imposing.{position_map, sheet_of, signatures_before}
use Rattle.signature.specs.Laws.{mark_of, side_number as sideAt}
use Rattle.signature.proofs.Sides.{side_of_lem, signature_of, sheet_of_lem, numbered}
use Rattle.plan.specs.Folds.{lies, first, mark_numbered, cell_of, filled, Planned, PlansFold}
use Rattle.plan.specs.Records.{record_at, records_of, plan_to, RecordsName}
use Rattle.plan.specs.declared.record.Record.{Record}
use Rattle.plan.proofs.Alike.{Inside, fold_alike}
use Rattle.plan.proofs.Firsts.{first_front, first_back, first_none, first_some}

-- ---- a record names what is laid

mark_laid : (z : Size) (r i j : ℕ) (m : Mark) → mark_number m ≡ mark_number (mark_of (position_map z r i j m))
mark_laid z r i j Upright = refl
mark_laid z r i j Turned = refl

pub records_name : RecordsName
records_name u k z p i j = record { page = refl; mark = mark_laid z (rows_of u) i j (laid u k (sheet_of k p) (side_of p) i j).mark }

-- ---- the test of a position

pub record Lies (g sheet : ℕ) (side : Side) (i j : ℕ) (r : Record) : Type 0 where
  pub of_signature : r.signature ≡ g
  pub of_sheet : r.sheet ≡ sheet
  pub of_side : r.side ≡ side_number side
  pub of_row : r.row ≡ i
  pub of_column : r.column ≡ j

lies_from : (g sheet : ℕ) (side : Side) (i j : ℕ) (r : Record) → Lies g sheet side i j r → lies g sheet side i j r ≡ true
lies_from g sheet side i j r l =
    and_from _ _ (eq-eqb _ _ l.of_signature) (and_from _ _ (eq-eqb _ _ l.of_sheet) (and_from _ _ (eq-eqb _ _ l.of_side) (and_from _ _ (eq-eqb _ _ l.of_row) (eq-eqb _ _ l.of_column))))

lies_to : (g sheet : ℕ) (side : Side) (i j : ℕ) (r : Record) → lies g sheet side i j r ≡ true → Lies g sheet side i j r
lies_to g sheet side i j r h =
    let p = and_parts _ _ h in
    let q = and_parts _ _ p.1 in
    let s = and_parts _ _ q.1 in
    let t = and_parts _ _ s.1 in
    record {
      of_signature = eqb-true _ _ p.0;
      of_sheet = eqb-true _ _ q.0;
      of_side = eqb-true _ _ s.0;
      of_row = eqb-true _ _ t.0;
      of_column = eqb-true _ _ t.1;
    }

fails : (b : Bool) → (b ≡ true → ⊥) → b ≡ false
fails true h = absurd (h refl)
fails false h = refl

same_side : (a b : Side) → side_number a ≡ side_number b → a ≡ b
same_side One One e = refl
same_side Two Two e = refl
same_side One Two e = absurd (omega arith)
same_side Two One e = absurd (omega arith)

-- the sides of signature g, from 1
whole : (g k : ℕ) → 1 ≤ g → g * (2 * k) ≡ 2 * ((g - 1) * k) + 2 * k
whole g k h =
    let e : g ≡ suc (g - 1) = omega arith in
    ap (λ z. z * (2 * k)) e ∙ suc-mul (g - 1) (2 * k)
    ∙ ap (λ z. z + 2 * k) (sym (mul_assoc (g - 1) 2 k) ∙ ap (λ z. z * k) (mul_comm (g - 1) 2) ∙ mul_assoc 2 (g - 1) k)

side_below : (k g sheet : ℕ) (side : Side) → 1 ≤ g → 1 ≤ sheet → sheet ≤ k → (1 ≤ sideAt k (g - 1) sheet side) × (sideAt k (g - 1) sheet side ≤ g * (2 * k))
side_below k g sheet One a b c = (omega arith, omega (arith, whole g k a))
side_below k g sheet Two a b c = (omega arith, omega (arith, whole g k a))

mark_back : (m : Mark) → mark_numbered (mark_number m) ≡ m
mark_back Upright = refl
mark_back Turned = refl

module _ (u : Letters) (k g sheet : ℕ) (side : Side) (i j : ℕ) (low : 1 ≤ g) (ins : Inside u k sheet i j) where
  -- the side of the position, its place among the records of that side, and its record
  abbrev s : ℕ
  s = sideAt k (g - 1) sheet side

  abbrev x : ℕ
  x = (i - 1) * columns_of u + (j - 1)

  abbrev here : Record → Bool
  here = lies g sheet side i j

  -- no other side has a record of the position
  other : (p y : ℕ) → 1 ≤ p → (p ≡ s → ⊥) → here (record_at u k p y) ≡ false
  other p y h d = fails _ (λ t.
      let l = lies_to g sheet side i j (record_at u k p y) t in
      let a : signatures_before k p ≡ g - 1 = omega (arith, l.of_signature) in
      let c : side_of p ≡ side = same_side (side_of p) side l.of_side in
      d (numbered k p h ∙ ap (λ n. sideAt k n (sheet_of k p) (side_of p)) a ∙ ap (λ n. sideAt k (g - 1) n (side_of p)) l.of_sheet ∙ ap (sideAt k (g - 1) sheet) c))

  none_before : (n : ℕ) → n < s → first here (plan_to u k n) ≡ None
  none_before zero h = refl
  none_before (suc n) h =
      first_back here (plan_to u k n) (records_of u k (suc n)) (none_before n (omega arith))
      ∙ first_none here (record_at u k (suc n)) 0 (cells u) (λ y a b. other (suc n) y (omega arith) (λ (e : suc n ≡ s). omega arith))

  row_is : x / columns_of u + 1 ≡ i
  row_is = omega (arith, div-mul-add (i - 1) (columns_of u) (j - 1) (omega arith), ins.row_is)

  column_is : x % columns_of u + 1 ≡ j
  column_is = omega (arith, mod-mul-add (i - 1) (columns_of u) (j - 1) (omega arith), ins.column_is)

  own_lies : Lies g sheet side i j (record_at u k s x)
  own_lies = record {
    of_signature = omega (arith, signature_of k (g - 1) sheet side ins.sheet_is.0 ins.sheet_is.1);
    of_sheet = sheet_of_lem k (g - 1) sheet side ins.sheet_is.0 ins.sheet_is.1;
    of_side = ap side_number (side_of_lem k (g - 1) sheet side);
    of_row = row_is;
    of_column = column_is;
  }

  only : (y : ℕ) → y < x → here (record_at u k s y) ≡ false
  only y h = fails _ (λ t.
      let l = lies_to g sheet side i j (record_at u k s y) t in
      let q : y / columns_of u ≡ i - 1 = omega (arith, l.of_row) in
      omega (arith, l.of_column, div-add-mod' y (columns_of u), ap (λ z. z * columns_of u) q))

  on_side : first here (records_of u k s) ≡ Some (record_at u k s x)
  on_side =
      let below : x < 0 + cells u = omega (arith, mul-add-lt (i - 1) (columns_of u) (j - 1) (rows_of u) (omega (arith, ins.row_is)) (omega (arith, ins.column_is)), mul_comm (rows_of u) (columns_of u)) in
      first_some here (record_at u k s) 0 (cells u) x (omega arith) below (lies_from g sheet side i j (record_at u k s x) own_lies) only

  within : (n : ℕ) → s ≤ n → first here (plan_to u k n) ≡ Some (record_at u k s x)
  within zero h = absurd (omega (arith, (side_below k g sheet side low ins.sheet_is.0 ins.sheet_is.1).0))
  within (suc n) h =
      ⊎_elim
      (λ (e : s ≡ suc n).
      first_back here (plan_to u k n) (records_of u k (suc n)) (none_before n (omega arith))
      ∙ ap (λ p. first here (records_of u k p)) (sym e) ∙ on_side)
      (λ (d : s ≡ suc n → ⊥). first_front here (plan_to u k n) (records_of u k (suc n)) _ (within n (omega arith)))
      (cases_eq s (suc n))

  own_shows : cell_of (Some (record_at u k s x)) ≡ named (λ n. (g - 1) * page_count u k + n) (laid u k) sheet side i j
  own_shows =
      let a = signature_of k (g - 1) sheet side ins.sheet_is.0 ins.sheet_is.1 in
      let b = sheet_of_lem k (g - 1) sheet side ins.sheet_is.0 ins.sheet_is.1 in
      let c = side_of_lem k (g - 1) sheet side in
      (λ t. record {
        page = a t * page_count u k + (laid u k (b t) (c t) (row_is t) (column_is t)).page;
        mark = mark_numbered (mark_number (laid u k (b t) (c t) (row_is t) (column_is t)).mark);
      })
      ∙ (λ t. record {
        page = (g - 1) * page_count u k + (laid u k sheet side i j).page;
        mark = mark_back (laid u k sheet side i j).mark t;
      })

  pub filled_is : (n : ℕ) (plan : List Record) → Planned u k n plan → g * (2 * k) ≤ n
      → filled plan g sheet side i j ≡ named (λ n. (g - 1) * page_count u k + n) (laid u k) sheet side i j
  filled_is n plan e le =
      let known : s ≤ n = omega (arith, (side_below k g sheet side low ins.sheet_is.0 ins.sheet_is.1).1) in
      ap (λ z. cell_of (first here z)) (sym (take-append-drop (n * cells u) plan) ∙ ap (λ z. z ++ drop (n * cells u) plan) e)
      ∙ ap cell_of (first_front here (plan_to u k n) (drop (n * cells u) plan) _ (within n known))
      ∙ own_shows

pub plans_fold : PlansFold
plans_fold u k n g plan e low le =
    ap read (fold_alike u k (filled plan g) (named (λ q. (g - 1) * page_count u k + q) (laid u k))
    (λ sheet side i j ins. filled_is u k g sheet side i j low ins n plan e le))
    ∙ folds_in_order u k (λ q. (g - 1) * page_count u k + q)
