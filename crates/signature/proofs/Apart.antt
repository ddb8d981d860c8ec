-- Two cells of a stack never come to lie in the same place: fold a stack in which one leaf alone is marked.
use Rattle.std.proofs.Common.{◌≡◌, ℕ, zero, suc, ◌-◌, ◌≤◌, Bool, true, false, cond, ◌&&◌, eqb, map, Some, Option, sym, refl, ap, ◌∙◌, arith}
use Rattle.std.specs.List.{slice_get, range_with_len}
use Rattle.std.proofs.lemmas.List.FromFn.{length-map-range_with_len}
use Rattle.std.proofs.lemmas.Bool.{cond-true, eq-eqb, eqb-true, and_parts}
use Rattle.fold.specs.Folding.{Leaf, Grid, Stacked, exchanged, reversed, upright, times, turned_over, last}
use Rattle.fold.specs.Walk.{begin, walk}
use Rattle.fold.specs.Words.{Letters, columns_of, rows_of}
use Rattle.fold.proofs.Law.{leaves_follow_the_walk}
use Rattle.signature.proofs.Positions.{nth_counted}

-- ---- a leaf with one number on both faces keeps it, however it is turned over

abbrev plain : ℕ → Leaf
plain n = record { upper = upright n; lower = upright n }

abbrev Bears : ℕ → Leaf → Type 0
Bears n x = (x.upper.page ≡ n) × (x.lower.page ≡ n)

bears_times : (n : ℕ) (f : Leaf → Leaf) → ((x : Leaf) → Bears n x → Bears n (f x)) → (t : ℕ) (x : Leaf) → Bears n x → Bears n (times t f x)
bears_times n f k zero x b = b
bears_times n f k (suc t) x b = k (times t f x) (bears_times n f k t x b)

bears_turned : (n a b : ℕ) → Bears n (turned_over a b (plain n))
bears_turned n a b =
    bears_times n exchanged (λ x y. (y.1, y.0)) a (times b reversed (plain n))
    (bears_times n reversed (λ x y. (y.0, y.1)) b (plain n) (refl, refl))

same_number : (m n a b c d : ℕ) (o : Option Leaf) → o ≡ Some (turned_over a b (plain m)) → o ≡ Some (turned_over c d (plain n)) → m ≡ n
same_number m n a b c d o e f =
    let g : turned_over a b (plain m) ≡ turned_over c d (plain n) = cc in
    sym (bears_turned m a b).0 ∙ ap (λ (x : Leaf). x.upper.page) g ∙ (bears_turned n c d).0

-- ---- one leaf marked

one_only : (b : Bool) → ◌≡◌ {A = ℕ} (cond b 1 0) 1 → b ≡ true
one_only true e = refl
one_only false e = absurd (omega arith)

module _ (w : Letters) (leaves r c d : ℕ) where
  abbrev here : ℕ → ℕ → ℕ → Bool
  here i j a = eqb i r && (eqb j c && eqb a d)

  abbrev number : ℕ → ℕ → ℕ → ℕ
  number i j a = cond (here i j a) 1 0

  abbrev grid : Grid
  grid = record { height = rows_of w; width = columns_of w; pile = λ i j. map (λ a. plain (number i j a)) (range_with_len 1 leaves) }

  stacked : Stacked w leaves grid
  stacked = record { height_is = refl; width_is = refl; piles = λ i j _ _ _ _. length-map-range_with_len (λ a. plain (number i j a)) 1 leaves }

  lies : (i j a : ℕ) → 1 ≤ i → i ≤ rows_of w → 1 ≤ j → j ≤ columns_of w → 1 ≤ a → a ≤ leaves →
      slice_get (last w grid) ((walk w (begin w leaves i j a)).depth - 1)
      ≡ Some (turned_over (walk w (begin w leaves i j a)).turns (walk w (begin w leaves i j a)).tumbles (plain (number i j a)))
  lies i j a i1 i2 j1 j2 a1 a2 =
      leaves_follow_the_walk w leaves grid stacked i j a (plain (number i j a)) i1 i2 j1 j2 a1
      (sym (nth_counted (λ a. plain (number i j a)) 1 leaves (a - 1) a (omega arith) (omega arith)))

  marked : number r c d ≡ 1
  marked =
      cond-true (here r c d) 1 0
      (ap (λ (v : Bool). v && (eqb c c && eqb d d)) (eq-eqb r r refl) ∙ ap (λ (v : Bool). v && eqb d d) (eq-eqb c c refl) ∙ eq-eqb d d refl)

  pub apart : (i j a : ℕ) → 1 ≤ i → i ≤ rows_of w → 1 ≤ j → j ≤ columns_of w → 1 ≤ a → a ≤ leaves →
      1 ≤ r → r ≤ rows_of w → 1 ≤ c → c ≤ columns_of w → 1 ≤ d → d ≤ leaves →
      (walk w (begin w leaves i j a)).depth ≡ (walk w (begin w leaves r c d)).depth → (i ≡ r) × (j ≡ c) × (a ≡ d)
  apart i j a i1 i2 j1 j2 a1 a2 r1 r2 c1 c2 d1 d2 e =
      let p = walk w (begin w leaves i j a) in
      let o = walk w (begin w leaves r c d) in
      let x = lies i j a i1 i2 j1 j2 a1 a2 in
      let y = lies r c d r1 r2 c1 c2 d1 d2 in
      let f : slice_get (last w grid) ((walk w (begin w leaves i j a)).depth - 1) ≡ slice_get (last w grid) ((walk w (begin w leaves r c d)).depth - 1) = ap (λ (n : ℕ). slice_get (last w grid) (n - 1)) e in
      let m = same_number (number i j a) (number r c d) p.turns p.tumbles o.turns o.tumbles (slice_get (last w grid) ((walk w (begin w leaves i j a)).depth - 1)) x (f ∙ y) in
      let h = one_only (here i j a) (m ∙ marked) in
      let k = and_parts (eqb i r) (eqb j c && eqb a d) h in
      let l = and_parts (eqb j c) (eqb a d) k.1 in
      (eqb-true i r k.0, eqb-true j c l.0, eqb-true a d l.1)
