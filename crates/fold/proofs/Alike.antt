-- Fillings that agree at every position of a signature fold alike.
use Rattle.std.proofs.Common.{◌≡◌, ℕ, zero, suc, ◌+◌, ◌-◌, ◌*◌, ◌/◌, ◌^◌, ◌≤◌, [], ◌∷◌, ◌++◌, map, reverse, refl, ap, ◌∙◌, pow-suc, arith}
use Rattle.fold.specs.Folding.{Leaf, Grid, over, fold, last, stack, piled}
use Rattle.fold.specs.Walk.{Filling}
use Rattle.fold.specs.Words.{Letters, columns_of, rows_of, count_w, count_n}
use Rattle.fold.specs.declared.letters.Letter.TheVariants.{W, N}
use Rattle.fold.specs.declared.sheets.Cell.{Cell}
use Rattle.fold.specs.declared.sheets.Side.{Side}
use Rattle.fold.specs.declared.sheets.Side.TheVariants.{One, Two}

-- a position of a signature of k sheets
pub record Inside (u : Letters) (k sheet i j : ℕ) : Type 0 where
  pub sheet_is : (1 ≤ sheet) × (sheet ≤ k)
  pub row_is : (1 ≤ i) × (i ≤ rows_of u)
  pub column_is : (1 ≤ j) × (j ≤ columns_of u)

piled_alike : (k : ℕ) (f h : ℕ → Leaf) → ((s : ℕ) → 1 ≤ s → s ≤ k → f s ≡ h s) → piled k f ≡ piled k h
piled_alike zero f h e = refl
piled_alike (suc s) f h e =
    ap (λ x. x ∷ piled s f) (e (suc s) (omega arith) (omega arith))
    ∙ ap (λ z. h (suc s) ∷ z) (piled_alike s f h (λ t a b. e t a (omega arith)))

last_alike : (w : Letters) (g h : Grid) → g.height ≡ rows_of w → h.height ≡ rows_of w → g.width ≡ columns_of w → h.width ≡ columns_of w
    → ((i j : ℕ) → 1 ≤ i → i ≤ rows_of w → 1 ≤ j → j ≤ columns_of w → g.pile i j ≡ h.pile i j) → last w g ≡ last w h
last_alike [] g h a b c d e = e 1 1 (omega arith) (omega arith) (omega arith) (omega arith)
last_alike (W ∷ w) g h a b c d e =
    let double : 2 ^ suc (count_w w) ≡ 2 ^ count_w w * 2 = pow-suc 2 (count_w w) in
    let x : g.width / 2 ≡ 2 ^ count_w w = omega arith in
    let y : h.width / 2 ≡ 2 ^ count_w w = omega arith in
    let z : g.width / 2 ≡ h.width / 2 = omega arith in
    last_alike w (fold W g) (fold W h) a b x y
    (λ i j i1 i2 j1 j2.
    ap (λ q. reverse (map (over W) q) ++ g.pile i (g.width / 2 + j)) (e i (g.width / 2 + 1 - j) i1 i2 (omega arith) (omega arith))
    ∙ ap (λ q. reverse (map (over W) (h.pile i (g.width / 2 + 1 - j))) ++ q) (e i (g.width / 2 + j) i1 i2 (omega arith) (omega arith))
    ∙ ap (λ v. reverse (map (over W) (h.pile i (v + 1 - j))) ++ h.pile i (v + j)) z)
last_alike (N ∷ w) g h a b c d e =
    let double : 2 ^ suc (count_n w) ≡ 2 ^ count_n w * 2 = pow-suc 2 (count_n w) in
    let x : g.height / 2 ≡ 2 ^ count_n w = omega arith in
    let y : h.height / 2 ≡ 2 ^ count_n w = omega arith in
    let z : g.height / 2 ≡ h.height / 2 = omega arith in
    last_alike w (fold N g) (fold N h) x y c d
    (λ i j i1 i2 j1 j2.
    ap (λ q. reverse (map (over N) q) ++ g.pile (g.height / 2 + i) j) (e (g.height / 2 + 1 - i) j (omega arith) (omega arith) j1 j2)
    ∙ ap (λ q. reverse (map (over N) (h.pile (g.height / 2 + 1 - i) j)) ++ q) (e (g.height / 2 + i) j (omega arith) (omega arith) j1 j2)
    ∙ ap (λ v. reverse (map (over N) (h.pile (v + 1 - i) j)) ++ h.pile (v + i) j) z)

pub fold_alike : (w : Letters) (k : ℕ) (f h : Filling)
    → ((s : ℕ) (side : Side) (i j : ℕ) → Inside w k s i j → f s side i j ≡ h s side i j)
    → last w (stack w k f) ≡ last w (stack w k h)
fold_alike w k f h e =
    last_alike w (stack w k f) (stack w k h) refl refl refl refl
    (λ i j i1 i2 j1 j2. piled_alike k _ _ (λ s s1 s2.
    let a = e s Two i j (record { sheet_is = (s1, s2); row_is = (i1, i2); column_is = (j1, j2) }) in
    let b = e s One i (columns_of w + 1 - j) (record { sheet_is = (s1, s2); row_is = (i1, i2); column_is = (omega arith, omega arith) }) in
    ap (λ (x : Cell). record { upper = x; lower = f s One i (columns_of w + 1 - j) }) a
    ∙ ap (λ (x : Cell). record { upper = h s Two i j; lower = x }) b))
