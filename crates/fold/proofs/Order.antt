-- The stack that is filled by the walk folds into reading order.
use Rattle.std.proofs.Common.{◌≡◌, ℕ, zero, suc, ◌+◌, ◌-◌, ◌*◌, ◌^◌, ◌<◌, ◌≤◌, Bool, true, false, cond, not, ◌∷◌, map, length, get_or, sym, refl, ap, ◌∙◌, mul_assoc, arith}
use Rattle.std.specs.List.{range_with_len}
use Rattle.std.proofs.lemmas.List.{ext_get_or}
use Rattle.std.proofs.lemmas.List.FromFn.{length-map-range_with_len, get_or-map-range_with_len}
use Rattle.std.proofs.lemmas.Bool.{eq-eqb, ne_eqb}
use Rattle.fold.specs.Words.{Letters, columns_of}
use Rattle.fold.specs.Walk.{begin, walk, odd, start, shows, Filling, laid}
use Rattle.fold.specs.Folding.{Leaf, Stacked, exchanged, opposite, reversed, last, piled, stack, read, upright, named, times, turned_over, FoldsInOrder}
use Rattle.fold.specs.declared.sheets.Mark.{Mark}
use Rattle.fold.specs.declared.sheets.Mark.TheVariants.{Upright, Turned}
use Rattle.fold.specs.declared.sheets.Side.TheVariants.{One, Two}
use Rattle.fold.specs.declared.walk.CellState.{CellState}
use Rattle.fold.proofs.Law.{blank, item, at_begin, at_end, end-length, reach}

-- ---- the stack

length-piled : (k : ℕ) (f : ℕ → Leaf) → length (piled k f) ≡ k
length-piled zero f = refl
length-piled (suc k) f = ap suc (length-piled k f)

get_d_piled : (k : ℕ) (f : ℕ → Leaf) (n : ℕ) → n < k → get_or (piled k f) n blank ≡ f (k - n)
get_d_piled zero f n h = absurd (omega arith)
get_d_piled (suc k) f zero h = ap f (omega arith)
get_d_piled (suc k) f (suc n) h = get_d_piled k f n (omega arith) ∙ ap f (omega arith)

stacked : (w : Letters) (k : ℕ) (f : Filling) → Stacked w k (stack w k f)
stacked w k f = record { height_is = refl; width_is = refl; piles = λ i j _ _ _ _. length-piled k _ }

-- ---- only the parity of the turns counts

odd_suc : (n : ℕ) → odd (suc n) ≡ not (odd n)
odd_suc n = grind (arith, eq-eqb, ne_eqb)

back_again : {A : Type 0} (f : A → A) (x : A) → f (f x) ≡ x → (b : Bool) → f (cond b (f x) x) ≡ cond (not b) (f x) x
back_again f x e true = e
back_again f x e false = refl

times_odd : {A : Type 0} (f : A → A) (x : A) → f (f x) ≡ x → (n : ℕ) → times n f x ≡ cond (odd n) (f x) x
times_odd f x e zero = refl
times_odd f x e (suc n) = ap f (times_odd f x e n) ∙ back_again f x e (odd n) ∙ ap (λ b. cond b (f x) x) (sym (odd_suc n))

opposite_twice : (m : Mark) → opposite (opposite m) ≡ m
opposite_twice Upright = refl
opposite_twice Turned = refl

reversed_twice : (l : Leaf) → reversed (reversed l) ≡ l
reversed_twice l = λ i. record {
  upper = record { page = l.upper.page; mark = opposite_twice l.upper.mark i };
  lower = record { page = l.lower.page; mark = opposite_twice l.lower.mark i };
}

-- ---- what a cell shows, and what it reads in the end

module _ (h : ℕ → ℕ) where
  abbrev leaf_of : CellState → Leaf
  leaf_of p = record {
    upper = record { page = h (shows Two p).page; mark = (shows Two p).mark };
    lower = record { page = h (shows One p).page; mark = (shows One p).mark };
  }

  -- paper leaf d of the finished signature
  abbrev risen : ℕ → Leaf
  risen d = record { upper = upright (h (2 * d - 1)); lower = upright (h (2 * d)) }

  abbrev shown : Bool → Bool → ℕ → Leaf
  shown b c d = record {
    upper = record { page = h (cond b (2 * d) (2 * d - 1)); mark = cond c Turned Upright };
    lower = record { page = h (cond b (2 * d - 1) (2 * d)); mark = cond c Turned Upright };
  }

  turned_back : (b c : Bool) (d : ℕ) → cond b (exchanged (cond c (reversed (shown b c d)) (shown b c d))) (cond c (reversed (shown b c d)) (shown b c d)) ≡ risen d
  turned_back true true d = refl
  turned_back true false d = refl
  turned_back false true d = refl
  turned_back false false d = refl

  comes_out : (p : CellState) → turned_over p.turns p.tumbles (leaf_of p) ≡ risen p.depth
  comes_out p =
      let b = odd p.turns in
      let c = odd p.tumbles in
      let x = leaf_of p in
      times_odd exchanged (times p.tumbles reversed x) refl p.turns
      ∙ ap (λ y. cond b (exchanged y) y) (times_odd reversed x (reversed_twice x) p.tumbles)
      ∙ turned_back b c p.depth

  read_risen : (a n : ℕ) → 1 ≤ a → read (map risen (range_with_len a n)) ≡ map (λ m. upright (h m)) (range_with_len (2 * a - 1) (2 * n))
  read_risen a zero l = refl
  read_risen a (suc n) l =
      let e1 : 2 * a - 1 + 1 ≡ 2 * a = omega arith in
      let e2 : 2 * a - 1 + 1 + 1 ≡ 2 * (a + 1) - 1 = omega arith in
      let e3 : 2 * suc n ≡ suc (suc (2 * n)) = omega arith in
      (λ i. upright (h (2 * a - 1)) ∷ upright (h (sym e1 i)) ∷ read_risen (a + 1) n (omega arith) i)
      ∙ ap (λ x. upright (h (2 * a - 1)) ∷ upright (h (2 * a - 1 + 1)) ∷ map (λ m. upright (h m)) (range_with_len x (2 * n))) (sym e2)
      ∙ ap (λ x. map (λ m. upright (h m)) (range_with_len (2 * a - 1) x)) (sym e3)

  rising : (k n : ℕ) → read (map risen (range_with_len 1 (k * n))) ≡ map (λ m. upright (h m)) (range_with_len 1 (2 * k * n))
  rising k n = read_risen 1 (k * n) (omega arith) ∙ ap (λ x. map (λ m. upright (h m)) (range_with_len 1 x)) (sym (mul_assoc 2 k n))

-- ---- the theorem

pub folds_in_order : FoldsInOrder
folds_in_order w k h = ap read same ∙ rising h k (2 ^ length w)
  where
    f : Filling
    f = named h (laid w k)

    each : (b : ℕ) → 1 ≤ b → b ≤ k * 2 ^ length w → item (last w (stack w k f)) b ≡ risen h b
    each b low high =
        let r = reach w k b low high in
        let s = k + 1 - r.depth in
        let c = r.column in
        let i = r.row in
        let a = k + 1 - s in
        let deep : a ≡ r.depth = omega (arith, r.depth_high) in
        let sheet : k - (a - 1) ≡ s = omega (arith, r.depth_low, r.depth_high) in
        let turn-back : columns_of w + 1 - (columns_of w + 1 - c) ≡ c = omega (arith, r.column_high) in
        let p = walk w (start w k s i c) in
        let lands : p.depth ≡ b = ap (λ d. (walk w (begin w k i c d)).depth) deep ∙ r.lands 0 0 in
        let is : item ((stack w k f).pile i c) a ≡ leaf_of h p =
        get_d_piled k _ (a - 1) (omega (arith, r.depth_low, r.depth_high))
        ∙ (λ j. record {
          upper = f (sheet j) Two i c;
          lower = record {
            page = h (shows One (walk w (start w k (sheet j) i (turn-back j)))).page;
            mark = (shows One (walk w (start w k (sheet j) i (turn-back j)))).mark;
          };
        }) in
        ap (item (last w (stack w k f))) (sym lands)
        ∙ at_end w (stack w k f) (start w k s i c) (leaf_of h p)
        (at_begin w (stack w k f) k i c a (stacked w k f) r.row_low r.row_high r.column_low r.column_high
        (omega (arith, r.depth_low)) (omega (arith, r.depth_high)) (leaf_of h p) is)
        ∙ comes_out h p
        ∙ ap (risen h) lands

    same : last w (stack w k f) ≡ map (risen h) (range_with_len 1 (k * 2 ^ length w))
    same = ext_get_or blank _ _
        (end-length w (stack w k f) k (stacked w k f) ∙ sym (length-map-range_with_len (risen h) 1 (k * 2 ^ length w)))
        (λ i l.
        let short : i < k * 2 ^ length w = omega (arith, l, end-length w (stack w k f) k (stacked w k f)) in
        let at : i ≡ i + 1 - 1 = omega arith in
        ap (λ n. get_or (last w (stack w k f)) n blank) at
        ∙ each (i + 1) (omega arith) (omega arith)
        ∙ sym (get_or-map-range_with_len (risen h) 1 (k * 2 ^ length w) i (i + 1) blank short (omega arith)))
