-- What folding does to a leaf: it comes to lie where the walk says, turned over as often as the walk says.
use Rattle.std.proofs.Common.{◌≡◌, ℕ, zero, suc, ◌+◌, ◌-◌, ◌*◌, ◌/◌, ◌^◌, ◌<◌, ◌≤◌, leb, ◌⊎◌, List, [], ◌∷◌, ◌++◌, map, reverse, length, get_or, Some, sym, refl, ap, ◌∙◌, subst, inl, inr, mul_assoc, mul_comm, pow-suc, add-one, arith}
use Rattle.std.proofs.lemmas.List.{get_or-map, get_or-reverse, get_or_append_left, get_or-append_right, length-append, length-reverse, length-map}
use Rattle.std.proofs.lemmas.Option.{slice_get-get_or, slice_get_past}
use Rattle.std.proofs.lemmas.Bool.{leb-true, leb-false, le-leb, lt-leb, cond_both, cond-true, cond-false, cases_lt}
use Rattle.fold.specs.Words.{Letters, columns_of, rows_of, count_w, count_n}
use Rattle.fold.specs.Walk.{begin, step, walk}
use Rattle.fold.specs.Folding.{Leaf, Grid, Stacked, exchanged, reversed, over, fold, folded, last, times, turned_over, LeavesFollowTheWalk}
use Rattle.fold.specs.declared.letters.Letter.{Letter}
use Rattle.fold.specs.declared.letters.Letter.TheVariants.{W, N}
use Rattle.fold.specs.declared.walk.CellState.{CellState}
use Rattle.fold.specs.declared.sheets.Mark.TheVariants.{Upright}

-- what a read past the end of a pile gives
abbrev pub blank : Leaf
blank = record { upper = record { page = 0; mark = Upright }; lower = record { page = 0; mark = Upright } }

-- the leaf at depth a, from 1
abbrev pub item : List Leaf → ℕ → Leaf
item p a = get_or p (a - 1) blank

-- ---- a leaf turned over once more

reversed_times : (t : ℕ) (x : Leaf) → reversed (times t exchanged x) ≡ times t exchanged (reversed x)
reversed_times zero x = refl
reversed_times (suc t) x = ap exchanged (reversed_times t x)

over_w : (t n : ℕ) (x y : Leaf) → y ≡ turned_over t n x → over W y ≡ turned_over (t + 1) n x
over_w t n x y e = ap exchanged e ∙ ap (λ m. turned_over m n x) (sym (add-one t))

over_n : (t n : ℕ) (x y : Leaf) → y ≡ turned_over t n x → over N y ≡ turned_over (t + 1) (n + 1) x
over_n t n x y e =
    ap (over N) e ∙ reversed_times (suc t) (times n reversed x)
    ∙ (λ i. turned_over (sym (add-one t) i) (sym (add-one n) i) x)

-- ---- one pile turned over onto another

module _ (f : Leaf → Leaf) (q r : List Leaf) (H : ℕ) (long : length q ≡ H) where
  both_length : length r ≡ H → length (reverse (map f q) ++ r) ≡ H * 2
  both_length e = simp (length-append, length-reverse, length-map) (omega arith)

  turned_pile : (a : ℕ) → 1 ≤ a → a ≤ H → item (reverse (map f q) ++ r) (H + 1 - a) ≡ f (item q a)
  turned_pile a low high =
      let short : H + 1 - a - 1 < length (map f q) = simp length-map (omega arith) in
      let short' : H + 1 - a - 1 < length (reverse (map f q)) = simp length-reverse short in
      let place : length (map f q) - 1 - (H + 1 - a - 1) ≡ a - 1 = simp length-map (omega arith) in
      get_or_append_left (reverse (map f q)) r blank (H + 1 - a - 1) short'
      ∙ get_or-reverse (map f q) (H + 1 - a - 1) blank short
      ∙ ap (λ n. get_or (map f q) n blank) place
      ∙ get_or-map f q (a - 1) blank blank (omega arith)

  kept_pile : (a : ℕ) → 1 ≤ a → item (reverse (map f q) ++ r) (a + H) ≡ item r a
  kept_pile a low =
      let long' : length (reverse (map f q)) ≡ H = simp (length-reverse, length-map) long in
      let place : a + H - 1 - H ≡ a - 1 = omega arith in
      get_or-append_right (reverse (map f q)) r H (a + H - 1) blank long' (omega arith)
      ∙ ap (λ n. get_or r n blank) place

-- ---- one fold, along the columns or along the rows

-- a line of 2 ^ n piles, of which a cell has number c
pub record Along (n size c : ℕ) : Type 0 where
  pub size_is : size ≡ 2 ^ n
  pub low : 1 ≤ c
  pub high : c ≤ 2 ^ n

half_is : (n size : ℕ) → size ≡ 2 ^ suc n → size / 2 ≡ 2 ^ n
half_is n size e = omega (arith, pow-suc 2 n)

along_turned : (n size c : ℕ) → Along (suc n) size c → c ≤ size / 2 → Along n (size / 2) (size / 2 + 1 - c)
along_turned n size c a h =
    let e = half_is n size a.size_is in record { size_is = e; low = omega arith; high = omega (arith, a.low) }

along_kept : (n size c : ℕ) → Along (suc n) size c → size / 2 < c → Along n (size / 2) (c - size / 2)
along_kept n size c a h =
    let e = half_is n size a.size_is in
    record { size_is = e; low = omega arith; high = omega (arith, a.high, pow-suc 2 n) }

module _ (f : Leaf → Leaf) (line : ℕ → List Leaf) (n size H : ℕ) (size_is : size ≡ 2 ^ suc n)
    (all : (c : ℕ) → 1 ≤ c → c ≤ 2 ^ suc n → length (line c) ≡ H) where
  -- the piles of the line after the fold
  abbrev lined : ℕ → List Leaf
  lined j = reverse (map f (line (size / 2 + 1 - j))) ++ line (size / 2 + j)

  line-length : (j : ℕ) → 1 ≤ j → j ≤ 2 ^ n → length (lined j) ≡ H * 2
  line-length j low high =
      let e = half_is n size size_is in
      let d : 2 ^ suc n ≡ 2 ^ n * 2 = pow-suc 2 n in
      both_length f _ _ H (all (size / 2 + 1 - j) (omega arith) (omega arith)) (all (size / 2 + j) (omega arith) (omega arith))

  line_turned : (c a : ℕ) → Along (suc n) size c → c ≤ size / 2 → 1 ≤ a → a ≤ H → item (lined (size / 2 + 1 - c)) (H + 1 - a) ≡ f (item (line c) a)
  line_turned c a al h low high =
      let back : size / 2 + 1 - (size / 2 + 1 - c) ≡ c = omega (arith, al.low) in
      ap (λ j. item (reverse (map f (line j)) ++ line (size / 2 + (size / 2 + 1 - c))) (H + 1 - a)) back
      ∙ turned_pile f (line c) _ H (all c al.low al.high) a low high

  line_kept : (c a : ℕ) → Along (suc n) size c → size / 2 < c → 1 ≤ a → item (lined (c - size / 2)) (a + H) ≡ item (line c) a
  line_kept c a al h low =
      let e = half_is n size size_is in
      let d : 2 ^ suc n ≡ 2 ^ n * 2 = pow-suc 2 n in
      let o = size / 2 + 1 - (c - size / 2) in
      let back : size / 2 + (c - size / 2) ≡ c = omega arith in
      kept_pile f (line o) _ H (all o (omega (arith, al.high)) (omega arith)) a low
      ∙ ap (λ j. item (line j) a) back

stacked_fold : (l : Letter) (w : Letters) (g : Grid) (H : ℕ) → Stacked (l ∷ w) H g → Stacked w (H * 2) (fold l g)
stacked_fold W w g H s = record {
  height_is = s.height_is;
  width_is = half_is (count_w w) g.width s.width_is;
  piles = λ i j i1 i2. line-length (over W) (g.pile i) (count_w w) g.width H s.width_is (λ c. s.piles i c i1 i2) j;
}
stacked_fold N w g H s = record {
  height_is = half_is (count_n w) g.height s.height_is;
  width_is = s.width_is;
  piles = λ i j i1 i2 j1 j2. line-length (over N) (λ r. g.pile r j) (count_n w) g.height H s.height_is (λ c c1 c2. s.piles c j c1 c2 j1 j2) i i1 i2;
}

-- the leaf x, turned over as often as the state says, lies where the state says
pub record At (w : Letters) (g : Grid) (p : CellState) (x : Leaf) : Type 0 where
  pub stacked : Stacked w p.height g
  pub rows_in : Along (count_n w) p.rows p.row
  pub columns_in : Along (count_w w) p.columns p.column
  pub depth_low : 1 ≤ p.depth
  pub depth_high : p.depth ≤ p.height
  pub leaf_is : item (g.pile p.row p.column) p.depth ≡ turned_over p.turns p.tumbles x

at_w : (w : Letters) (g : Grid) (p : CellState) (x : Leaf) → At (W ∷ w) g p x → At w (fold W g) (step W p) x
at_w w g p x a =
    let s = a.stacked in
    let piles = λ (c : ℕ). s.piles p.row c a.rows_in.low a.rows_in.high in
    let same : g.width ≡ p.columns = s.width_is ∙ sym a.columns_in.size_is in
    cond_both (leb p.column (p.columns / 2)) _ _ (λ p'. At w (fold W g) p' x)
    (λ e. let le = leb-true _ _ e in record {
      stacked = stacked_fold W w g p.height s;
      rows_in = a.rows_in;
      columns_in = along_turned (count_w w) p.columns p.column a.columns_in le;
      depth_low = omega (arith, a.depth_high);
      depth_high = omega (arith, a.depth_low);
      leaf_is =
          subst (λ n. item (reverse (map (over W) (g.pile p.row (n / 2 + 1 - (p.columns / 2 + 1 - p.column)))) ++ g.pile p.row (n / 2 + (p.columns / 2 + 1 - p.column))) (p.height + 1 - p.depth) ≡ turned_over (p.turns + 1) p.tumbles x) (sym same)
          (line_turned (over W) (g.pile p.row) (count_w w) p.columns p.height a.columns_in.size_is piles p.column p.depth a.columns_in le a.depth_low a.depth_high
          ∙ over_w p.turns p.tumbles x _ a.leaf_is);
    })
    (λ e. let gt = leb-false _ _ e in record {
      stacked = stacked_fold W w g p.height s;
      rows_in = a.rows_in;
      columns_in = along_kept (count_w w) p.columns p.column a.columns_in gt;
      depth_low = omega (arith, a.depth_low);
      depth_high = omega (arith, a.depth_high);
      leaf_is =
          subst (λ n. item (reverse (map (over W) (g.pile p.row (n / 2 + 1 - (p.column - p.columns / 2)))) ++ g.pile p.row (n / 2 + (p.column - p.columns / 2))) (p.depth + p.height) ≡ turned_over p.turns p.tumbles x) (sym same)
          (line_kept (over W) (g.pile p.row) (count_w w) p.columns p.height a.columns_in.size_is piles p.column p.depth a.columns_in gt a.depth_low
          ∙ a.leaf_is);
    })

at_n : (w : Letters) (g : Grid) (p : CellState) (x : Leaf) → At (N ∷ w) g p x → At w (fold N g) (step N p) x
at_n w g p x a =
    let s = a.stacked in
    let piles = λ (c : ℕ) (c1 : 1 ≤ c) (c2 : c ≤ 2 ^ suc (count_n w)). s.piles c p.column c1 c2 a.columns_in.low a.columns_in.high in
    let same : g.height ≡ p.rows = s.height_is ∙ sym a.rows_in.size_is in
    cond_both (leb p.row (p.rows / 2)) _ _ (λ p'. At w (fold N g) p' x)
    (λ e. let le = leb-true _ _ e in record {
      stacked = stacked_fold N w g p.height s;
      rows_in = along_turned (count_n w) p.rows p.row a.rows_in le;
      columns_in = a.columns_in;
      depth_low = omega (arith, a.depth_high);
      depth_high = omega (arith, a.depth_low);
      leaf_is =
          subst (λ n. item (reverse (map (over N) (g.pile (n / 2 + 1 - (p.rows / 2 + 1 - p.row)) p.column)) ++ g.pile (n / 2 + (p.rows / 2 + 1 - p.row)) p.column) (p.height + 1 - p.depth) ≡ turned_over (p.turns + 1) (p.tumbles + 1) x) (sym same)
          (line_turned (over N) (λ r. g.pile r p.column) (count_n w) p.rows p.height a.rows_in.size_is piles p.row p.depth a.rows_in le a.depth_low a.depth_high
          ∙ over_n p.turns p.tumbles x _ a.leaf_is);
    })
    (λ e. let gt = leb-false _ _ e in record {
      stacked = stacked_fold N w g p.height s;
      rows_in = along_kept (count_n w) p.rows p.row a.rows_in gt;
      columns_in = a.columns_in;
      depth_low = omega (arith, a.depth_low);
      depth_high = omega (arith, a.depth_high);
      leaf_is =
          subst (λ n. item (reverse (map (over N) (g.pile (n / 2 + 1 - (p.row - p.rows / 2)) p.column)) ++ g.pile (n / 2 + (p.row - p.rows / 2)) p.column) (p.depth + p.height) ≡ turned_over p.turns p.tumbles x) (sym same)
          (line_kept (over N) (λ r. g.pile r p.column) (count_n w) p.rows p.height a.rows_in.size_is piles p.row p.depth a.rows_in gt a.depth_low
          ∙ a.leaf_is);
    })

-- ---- all folds

pub at_last : (w : Letters) (g : Grid) (p : CellState) (x : Leaf) → At w g p x → At [] (folded w g) (walk w p) x
at_last [] g p x a = a
at_last (W ∷ w) g p x a = at_last w (fold W g) (step W p) x (at_w w g p x a)
at_last (N ∷ w) g p x a = at_last w (fold N g) (step N p) x (at_n w g p x a)

pub at_end : (w : Letters) (g : Grid) (p : CellState) (x : Leaf) → At w g p x → item (last w g) (walk w p).depth ≡ turned_over (walk w p).turns (walk w p).tumbles x
at_end w g p x h =
    let a = at_last w g p x h in
    let r : 1 ≡ (walk w p).row = omega (arith, a.rows_in.low, a.rows_in.high) in
    let c : 1 ≡ (walk w p).column = omega (arith, a.columns_in.low, a.columns_in.high) in
    (λ i. item ((folded w g).pile (r i) (c i)) (walk w p).depth) ∙ a.leaf_is

twice : (w : Letters) (H : ℕ) → H * 2 ^ suc (length w) ≡ H * 2 * 2 ^ length w
twice w H = ap (λ n. H * n) (pow-suc 2 (length w) ∙ mul_comm (2 ^ length w) 2) ∙ sym (mul_assoc H 2 (2 ^ length w))

pub end-length : (w : Letters) (g : Grid) (H : ℕ) → Stacked w H g → length (last w g) ≡ H * 2 ^ length w
end-length [] g H s = s.piles 1 1 (omega arith) (omega arith) (omega arith) (omega arith) ∙ omega arith
end-length (l ∷ w) g H s = end-length w (fold l g) (H * 2) (stacked_fold l w g H s) ∙ sym (twice w H)

step_height : (l : Letter) (p : CellState) → (step l p).height ≡ p.height * 2
step_height W p = cond_both (leb p.column (p.columns / 2)) _ _ (λ (q : CellState). q.height ≡ p.height * 2) (λ _. refl) (λ _. refl)
step_height N p = cond_both (leb p.row (p.rows / 2)) _ _ (λ (q : CellState). q.height ≡ p.height * 2) (λ _. refl) (λ _. refl)

walk_height : (w : Letters) (p : CellState) → (walk w p).height ≡ p.height * 2 ^ length w
walk_height [] p = omega arith
walk_height (l ∷ w) p = walk_height w (step l p) ∙ ap (λ h. h * 2 ^ length w) (step_height l p) ∙ sym (twice w p.height)

-- the state before the first letter
pub at_begin : (w : Letters) (g : Grid) (H i j a : ℕ) → Stacked w H g → 1 ≤ i → i ≤ rows_of w → 1 ≤ j → j ≤ columns_of w → 1 ≤ a → a ≤ H
    → (x : Leaf) → item (g.pile i j) a ≡ x → At w g (begin w H i j a) x
at_begin w g H i j a s i1 i2 j1 j2 a1 a2 x e = record {
  stacked = s;
  rows_in = record { size_is = refl; low = i1; high = i2 };
  columns_in = record { size_is = refl; low = j1; high = j2 };
  depth_low = a1;
  depth_high = a2;
  leaf_is = e;
}

pub leaves_follow_the_walk : LeavesFollowTheWalk
leaves_follow_the_walk w H g s i j a x i1 i2 j1 j2 a1 found =
    elim (cases_lt (a - 1) (length (g.pile i j))) [
      | inl short ↦
          let long = s.piles i j i1 i2 j1 j2 in
          let is : item (g.pile i j) a ≡ x = let e = slice_get-get_or (g.pile i j) (a - 1) blank short in cc in
          let b = at_begin w g H i j a s i1 i2 j1 j2 a1 (omega arith) x is in
          let z = at_last w g (begin w H i j a) x b in
          let low : (walk w (begin w H i j a)).depth - 1 < length (last w g) =
          omega (arith, z.depth_low, z.depth_high, walk_height w (begin w H i j a), end-length w g H s) in
          slice_get-get_or (last w g) ((walk w (begin w H i j a)).depth - 1) blank low ∙ ap Some (at_end w g (begin w H i j a) x b)
      | inr past ↦
          let e = slice_get_past (g.pile i j) (a - 1) past in
          let z : ◌≡◌ {A = ℕ} 0 1 = cc in absurd (omega arith)
    ]

-- ---- every depth of the last pile is reached

-- where a pile and a depth came from, before a fold along a line of 2 ^ suc n piles of H leaves
record Before (n H c d : ℕ) : Type 0 where
  pub at : ℕ
  pub deep : ℕ
  pub at_low : 1 ≤ at
  pub at_high : at ≤ 2 ^ suc n
  pub deep_low : 1 ≤ deep
  pub deep_high : deep ≤ H
  pub came : (2 ^ suc n / 2 < at × (at - 2 ^ suc n / 2 ≡ c) × (deep + H ≡ d))
      ⊎ (at ≤ 2 ^ suc n / 2 × (2 ^ suc n / 2 + 1 - at ≡ c) × (H + 1 - deep ≡ d))

came_from : (n H c d : ℕ) → 1 ≤ c → c ≤ 2 ^ n → 1 ≤ d → d ≤ H * 2 → Before n H c d
came_from n H c d c1 c2 d1 d2 =
    let double : 2 ^ suc n ≡ 2 ^ n * 2 = pow-suc 2 n in
    let half : 2 ^ suc n / 2 ≡ 2 ^ n = omega arith in
    elim (cases_lt H d) [
      | inl h ↦ record {
        at = 2 ^ n + c;
        deep = d - H;
        at_low = omega arith;
        at_high = omega arith;
        deep_low = omega arith;
        deep_high = omega arith;
        came = inl (omega arith, omega arith, omega arith);
      }
      | inr h ↦ record {
        at = 2 ^ n + 1 - c;
        deep = H + 1 - d;
        at_low = omega arith;
        at_high = omega arith;
        deep_low = omega arith;
        deep_high = omega arith;
        came = inr (omega arith, omega arith, omega arith);
      }
    ]

pub record Reach (w : Letters) (H b : ℕ) : Type 0 where
  pub row : ℕ
  pub column : ℕ
  pub depth : ℕ
  pub row_low : 1 ≤ row
  pub row_high : row ≤ rows_of w
  pub column_low : 1 ≤ column
  pub column_high : column ≤ columns_of w
  pub depth_low : 1 ≤ depth
  pub depth_high : depth ≤ H
  pub lands : (t n : ℕ) → (walk w (record { rows = rows_of w; columns = columns_of w; row = row; column = column; depth = depth; height = H; turns = t; tumbles = n })).depth ≡ b

reach_w : (w : Letters) (H b : ℕ) → Reach w (H * 2) b → Reach (W ∷ w) H b
reach_w w H b r =
    let half = half_is (count_w w) (2 ^ suc (count_w w)) refl in
    let q = came_from (count_w w) H r.column r.depth r.column_low r.column_high r.depth_low r.depth_high in record {
      row = r.row;
      column = q.at;
      depth = q.deep;
      row_low = r.row_low;
      row_high = r.row_high;
      column_low = q.at_low;
      column_high = q.at_high;
      depth_low = q.deep_low;
      depth_high = q.deep_high;
      lands = λ t n. elim q.came [
        | inl k ↦ ap (λ p. (walk w p).depth)
            (cond-false _ _ _ (lt-leb q.at (2 ^ suc (count_w w) / 2) k.0)
            ∙ (λ i. record { rows = rows_of w; columns = half i; row = r.row; column = k.1 i; depth = k.2 i; height = H * 2; turns = t; tumbles = n }))
            ∙ r.lands t n
        | inr k ↦ ap (λ p. (walk w p).depth)
            (cond-true _ _ _ (le-leb q.at (2 ^ suc (count_w w) / 2) k.0)
            ∙ (λ i. record { rows = rows_of w; columns = half i; row = r.row; column = k.1 i; depth = k.2 i; height = H * 2; turns = t + 1; tumbles = n }))
            ∙ r.lands (t + 1) n
      ];
    }

reach_n : (w : Letters) (H b : ℕ) → Reach w (H * 2) b → Reach (N ∷ w) H b
reach_n w H b r =
    let half = half_is (count_n w) (2 ^ suc (count_n w)) refl in
    let q = came_from (count_n w) H r.row r.depth r.row_low r.row_high r.depth_low r.depth_high in record {
      row = q.at;
      column = r.column;
      depth = q.deep;
      row_low = q.at_low;
      row_high = q.at_high;
      column_low = r.column_low;
      column_high = r.column_high;
      depth_low = q.deep_low;
      depth_high = q.deep_high;
      lands = λ t n. elim q.came [
        | inl k ↦ ap (λ p. (walk w p).depth)
            (cond-false _ _ _ (lt-leb q.at (2 ^ suc (count_n w) / 2) k.0)
            ∙ (λ i. record { rows = half i; columns = columns_of w; row = k.1 i; column = r.column; depth = k.2 i; height = H * 2; turns = t; tumbles = n }))
            ∙ r.lands t n
        | inr k ↦ ap (λ p. (walk w p).depth)
            (cond-true _ _ _ (le-leb q.at (2 ^ suc (count_n w) / 2) k.0)
            ∙ (λ i. record { rows = half i; columns = columns_of w; row = k.1 i; column = r.column; depth = k.2 i; height = H * 2; turns = t + 1; tumbles = n + 1 }))
            ∙ r.lands (t + 1) (n + 1)
      ];
    }

pub reach : (w : Letters) (H b : ℕ) → 1 ≤ b → b ≤ H * 2 ^ length w → Reach w H b
reach [] H b low high = record {
  row = 1;
  column = 1;
  depth = b;
  row_low = omega arith;
  row_high = omega arith;
  column_low = omega arith;
  column_high = omega arith;
  depth_low = low;
  depth_high = omega (arith, high);
  lands = λ t n. refl;
}
reach (W ∷ w) H b low high = reach_w w H b (reach w (H * 2) b low (subst (λ n. b ≤ n) (twice w H) high))
reach (N ∷ w) H b low high = reach_n w H b (reach w (H * 2) b low (subst (λ n. b ≤ n) (twice w H) high))
