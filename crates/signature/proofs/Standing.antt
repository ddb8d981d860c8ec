-- Every page below stands at one position of one side, and at no other.
use Rattle.std.proofs.Common.{◌≡◌, ℕ, ◌+◌, ◌-◌, ◌*◌, ◌/◌, ◌%◌, ◌^◌, ◌<◌, ◌≤◌, Bool, true, false, cond, ◌⊎◌, length, Some, sym, refl, ap, ◌∙◌, inl, inr, mul-le-mul_right, mul_assoc, suc-mul, add-mul, one-mul, arith, pow_pos}
use Rattle.std.proofs.lemmas.Nat.{mul-le, div-add-mod', div-mul-add, mod-mul-add, mod_below, div_below}
use Rattle.std.proofs.lemmas.Bool.{cases_lt}
use Rattle.fold.specs.Folding.{page_count}
use Rattle.fold.specs.Walk.{laid, shows, walk, start, begin, across, odd}
use Rattle.fold.specs.Words.{Letters, cells, columns_of}
use Rattle.fold.specs.declared.sheets.Side.{Side}
use Rattle.fold.specs.declared.sheets.Side.TheVariants.{One, Two}
use Rattle.fold.specs.declared.walk.CellState.{CellState}
use Rattle.fold.proofs.Law.{Reach, reach}
use Rattle.pages.specs.declared.maps.Size.{Size}
use Rattle.fold.specs.Sheets.{side_of}
use Rattle.signature.specs.Imposing.{position, position_at, sheets_before, signatures_before, sheet_of}
use Rattle.signature.specs.Laws.{ByRows, Stands, SamePosition, EachPageOnce, side_number}
use Rattle.signature.proofs.Apart.{apart}
use Rattle.signature.proofs.Positions.{nth_counted, walk_depth, laid_page}
use Rattle.signature.proofs.Sides.{side_of_lem, signature_of, sheet_of_lem, numbered}

-- ---- the parts are the positions by rows

pub by_rows : ByRows
by_rows u k z p i j i1 i2 j1 j2 =
    let low : (i - 1) * columns_of u + (j - 1) < cells u =
    omega (arith, mul-le-mul_right (columns_of u) i2, ap (λ (n : ℕ). n * columns_of u) (one_less i i1), add-mul (i - 1) 1 (columns_of u), one-mul (columns_of u)) in
    let row : ((i - 1) * columns_of u + (j - 1)) / columns_of u + 1 ≡ i = omega (arith, div-mul-add (i - 1) (columns_of u) (j - 1) (omega arith)) in
    let column : ((i - 1) * columns_of u + (j - 1)) % columns_of u + 1 ≡ j = omega (arith, mod-mul-add (i - 1) (columns_of u) (j - 1) (omega arith)) in
    sym (nth_counted (position_at u k z p) 0 (cells u) ((i - 1) * columns_of u + (j - 1)) ((i - 1) * columns_of u + (j - 1)) low (omega arith))
    ∙ ap (λ (n : ℕ). Some (position u k z p n (((i - 1) * columns_of u + (j - 1)) % columns_of u + 1))) row
    ∙ ap (λ (n : ℕ). Some (position u k z p i n)) column
  where
    one_less : (i : ℕ) → 1 ≤ i → i ≡ i - 1 + 1
    one_less i h = omega arith

-- ---- the two pages of a leaf

abbrev page_of : Side → Bool → ℕ → ℕ
page_of One o d = cond o (2 * d - 1) (2 * d)
page_of Two o d = cond o (2 * d) (2 * d - 1)

shown_is : (side : Side) (p : CellState) → (shows side p).page ≡ page_of side (odd p.turns) p.depth
shown_is One p = refl
shown_is Two p = refl

record Shown (o : Bool) (d n : ℕ) : Type 0 where
  side : Side
  page : page_of side o d ≡ n

-- each of them is on one of the sides
on_side : (o : Bool) (d n : ℕ) → (n ≡ 2 * d - 1) ⊎ (n ≡ 2 * d) → Shown o d n
on_side true d n (inl e) = record { side = One; page = sym e }
on_side true d n (inr e) = record { side = Two; page = sym e }
on_side false d n (inl e) = record { side = Two; page = sym e }
on_side false d n (inr e) = record { side = One; page = sym e }

same_depth : (s t : Side) (o q : Bool) (d e : ℕ) → 1 ≤ d → 1 ≤ e → page_of s o d ≡ page_of t q e → d ≡ e
same_depth s t o q d e a b h = omega (arith, within s o d a, within t q e b)
  where
    within : (s : Side) (o : Bool) (d : ℕ) → 1 ≤ d → (page_of s o d + 1) / 2 ≡ d
    within One true d h = omega arith
    within One false d h = omega arith
    within Two true d h = omega arith
    within Two false d h = omega arith

same_side : (s t : Side) (o : Bool) (d : ℕ) → 1 ≤ d → page_of s o d ≡ page_of t o d → s ≡ t
same_side One One o d h e = refl
same_side Two Two o d h e = refl
same_side One Two true d h e = absurd (omega arith)
same_side One Two false d h e = absurd (omega arith)
same_side Two One true d h e = absurd (omega arith)
same_side Two One false d h e = absurd (omega arith)

-- ---- columns as they are seen on a side

across_back : (u : Letters) (side : Side) (c : ℕ) → 1 ≤ c → c ≤ columns_of u → across u side (across u side c) ≡ c
across_back u One c a b = omega arith
across_back u Two c a b = refl

across_within : (u : Letters) (side : Side) (c : ℕ) → 1 ≤ c → c ≤ columns_of u → (1 ≤ across u side c) × (across u side c ≤ columns_of u)
across_within u One c a b = (omega arith, omega arith)
across_within u Two c a b = (a, b)

-- ---- the number of a side among the sides of m signatures

number_within : (k g s m : ℕ) (side : Side) → 1 ≤ s → s ≤ k → g < m → (1 ≤ side_number k g s side) × (side_number k g s side ≤ m * (2 * k))
number_within k g s m One a b c = (omega arith, omega (arith, mul-le-mul_right (2 * k) c, suc-mul g (2 * k)))
number_within k g s m Two a b c = (omega arith, omega (arith, mul-le-mul_right (2 * k) c, suc-mul g (2 * k)))

-- ---- somewhere

module _ (u : Letters) (k : ℕ) (positive : 1 ≤ k) where
  abbrev t : ℕ
  t = page_count u k

  some : 1 ≤ t
  some = mul-le 1 1 (2 * k) (2 ^ length u) (omega arith) (pow_pos (length u))

  module _ (pages : ℕ) (z : Size) (even : pages % t ≡ 0) (q : ℕ) (low : 1 ≤ q) (high : q ≤ pages) where
    -- the signature, and the page in it
    abbrev g : ℕ
    g = (q - 1) / t

    abbrev n : ℕ
    n = (q - 1) % t + 1

    leaf_high : (n + 1) / 2 ≤ k * 2 ^ length u
    leaf_high = omega (arith, mod_below (q - 1) t some, mul_assoc 2 k (2 ^ length u))

    there : Reach u k ((n + 1) / 2)
    there = reach u k ((n + 1) / 2) (omega arith) leaf_high

    abbrev s : ℕ
    s = k + 1 - there.depth

    abbrev end : CellState
    end = walk u (begin u k there.row there.column there.depth)

    on : Shown (odd end.turns) end.depth n
    on =
        let l : end.depth ≡ (n + 1) / 2 = there.lands 0 0 in
        on_side (odd end.turns) end.depth n (elim (cases_lt (n % 2) 1) [ inl e ↦ inr (omega arith) | inr e ↦ inl (omega (arith, mod_two n)) ])
      where
        mod_two : (n : ℕ) → n % 2 < 2
        mod_two n = omega arith

    abbrev p : ℕ
    p = side_number k g s on.side

    abbrev column : ℕ
    column = across u on.side there.column

    sheet_low : 1 ≤ s
    sheet_low = omega (arith, there.depth_high)

    sheet_high : s ≤ k
    sheet_high = omega (arith, there.depth_low)

    shown : (position u k z p there.row column).page ≡ q
    shown =
        let depth : k + 1 - s ≡ there.depth = omega (arith, there.depth_high) in
        let sum : g * t + n ≡ q = omega (arith, div-add-mod' (q - 1) t) in
        ap (λ (x : ℕ). x * t + (laid u k (sheet_of k p) (side_of p) there.row column).page) (signature_of k g s on.side sheet_low sheet_high)
        ∙ ap (λ (x : ℕ). g * t + (laid u k x (side_of p) there.row column).page) (sheet_of_lem k g s on.side sheet_low sheet_high)
        ∙ ap (λ (x : Side). g * t + (laid u k s x there.row column).page) (side_of_lem k g s on.side)
        ∙ ap (λ (x : ℕ). g * t + (shows on.side (walk u (begin u k there.row x (k + 1 - s)))).page) (across_back u on.side there.column there.column_low there.column_high)
        ∙ ap (λ (x : ℕ). g * t + (shows on.side (walk u (begin u k there.row there.column x))).page) depth
        ∙ ap (λ (x : ℕ). g * t + x) (shown_is on.side end ∙ on.page)
        ∙ sum

    pub stands : Stands u k pages z q
    stands = record {
      side = p;
      row = there.row;
      column = column;
      side_is = number_within k g s (pages / t) on.side sheet_low sheet_high (div_below (q - 1) t (pages / t) some (omega (arith, div-add-mod' pages t)));
      row_is = (there.row_low, there.row_high);
      column_is = across_within u on.side there.column there.column_low there.column_high;
      shows = shown;
    }

-- ---- nowhere else

-- what is known of a position where page q stands
module _ (u : Letters) (k pages : ℕ) (z : Size) (positive : 1 ≤ k) (q : ℕ) (x : Stands u k pages z q) where
  abbrev sheet : ℕ
  sheet = sheet_of k x.side

  abbrev face : Side
  face = side_of x.side

  abbrev cell_column : ℕ
  cell_column = across u face x.column

  abbrev state : CellState
  state = walk u (start u k sheet x.row cell_column)

  sheet_within : (1 ≤ sheet) × (sheet ≤ k)
  sheet_within = let m = mod_below (sheets_before x.side) k positive in (omega arith, omega arith)

  column_within : (1 ≤ cell_column) × (cell_column ≤ columns_of u)
  column_within = across_within u face x.column x.column_is.0 x.column_is.1

  deep : 1 ≤ state.depth
  deep = (walk_depth u k sheet x.row cell_column sheet_within.0 sheet_within.1).0

  parted : (signatures_before k x.side ≡ (q - 1) / page_count u k) × (page_of face (odd state.turns) state.depth ≡ (q - 1) % page_count u k + 1)
  parted =
      let l = laid_page u k sheet face x.row x.column sheet_within.0 sheet_within.1 in
      let e = x.shows in
      let f = shown_is face state in
      let y : q - 1 ≡ signatures_before k x.side * page_count u k + ((laid u k sheet face x.row x.column).page - 1) = omega arith in
      let d = div-mul-add (signatures_before k x.side) (page_count u k) ((laid u k sheet face x.row x.column).page - 1) (omega arith) in
      let m = mod-mul-add (signatures_before k x.side) (page_count u k) ((laid u k sheet face x.row x.column).page - 1) (omega arith) in
      (sym (ap (λ (n : ℕ). n / page_count u k) y ∙ d), omega (arith, ap (λ (n : ℕ). n % page_count u k) y))

module _ (u : Letters) (k pages : ℕ) (z : Size) (positive : 1 ≤ k) (q : ℕ) (a b : Stands u k pages z q) where
  abbrev sa : CellState
  sa = state u k pages z positive q a

  abbrev sb : CellState
  sb = state u k pages z positive q b

  abbrev fa : Side
  fa = side_of a.side

  abbrev fb : Side
  fb = side_of b.side

  same_page : page_of fa (odd sa.turns) sa.depth ≡ page_of fb (odd sb.turns) sb.depth
  same_page = (parted u k pages z positive q a).1 ∙ sym (parted u k pages z positive q b).1

  same_cell : (a.row ≡ b.row) × (across u fa a.column ≡ across u fb b.column) × (k + 1 - sheet_of k a.side ≡ k + 1 - sheet_of k b.side)
  same_cell =
      let wa = sheet_within u k pages z positive q a in
      let wb = sheet_within u k pages z positive q b in
      let ca = column_within u k pages z positive q a in
      let cb = column_within u k pages z positive q b in
      apart u k b.row (across u fb b.column) (k + 1 - sheet_of k b.side) a.row (across u fa a.column) (k + 1 - sheet_of k a.side)
      a.row_is.0 a.row_is.1 ca.0 ca.1 (omega arith) (omega arith)
      b.row_is.0 b.row_is.1 cb.0 cb.1 (omega arith) (omega arith)
      (same_depth fa fb (odd sa.turns) (odd sb.turns) sa.depth sb.depth (deep u k pages z positive q a) (deep u k pages z positive q b) same_page)

  same_state : sa ≡ sb
  same_state = λ i. walk u (begin u k (same_cell.0 i) (same_cell.1 i) (same_cell.2 i))

  same_face : fa ≡ fb
  same_face = same_side fa fb (odd sa.turns) sa.depth (deep u k pages z positive q a) (same_page ∙ ap (λ (s : CellState). page_of fb (odd s.turns) s.depth) (sym same_state))

  same_column : a.column ≡ b.column
  same_column =
      sym (across_back u fa a.column a.column_is.0 a.column_is.1)
      ∙ (λ i. across u (same_face i) (same_cell.1 i))
      ∙ across_back u fb b.column b.column_is.0 b.column_is.1

  same_number : a.side ≡ b.side
  same_number =
      let g = (parted u k pages z positive q a).0 ∙ sym (parted u k pages z positive q b).0 in
      let wa = sheet_within u k pages z positive q a in
      let wb = sheet_within u k pages z positive q b in
      let s : sheet_of k a.side ≡ sheet_of k b.side = omega (arith, same_cell.2) in
      numbered k a.side a.side_is.0 ∙ (λ i. side_number k (g i) (s i) (same_face i)) ∙ sym (numbered k b.side b.side_is.0)

  pub same : SamePosition a b
  same = (same_number, same_cell.0, same_column)

pub each_page_once : EachPageOnce
each_page_once = record {
  somewhere = λ u k pages z h e q l m. stands u k h pages z e q l m;
  nowhere_else = λ u k pages z h q a b. same u k pages z h q a b;
}
