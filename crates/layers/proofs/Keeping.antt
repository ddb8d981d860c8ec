-- The laws of Select, Pad and Turn.
use Rattle.std.proofs.Common.{◌≡◌, ℕ, ◌+◌, ◌-◌, ◌*◌, ◌/◌, ◌%◌, ◌<◌, ◌≤◌, true, false, ◌&&◌, leb, List, [], ◌∷◌, map, length, get_or, take, pos, refl, ap, ◌∙◌, append-nil, mul-le-mul_right, add-mul, one-mul, arith}
use Rattle.std.specs.List.{range_with_len}
use Rattle.std.proofs.lemmas.Nat.{div-add-mod', mod-mul-add, mod_below, div_below}
use Rattle.std.proofs.lemmas.List.FromFn.{length-range_with_len}
use Rattle.std.proofs.lemmas.Int.{ints}
use Rattle.std.proofs.lemmas.Bool.{cond-true, cond-false, le-leb}
use Rattle.pages.specs.Limits.{max_turn, max_placements}
use Rattle.pages.specs.Maps.{fits, followed, identity}
use Rattle.pages.specs.Meaning.{Meaning, Lawful, has, all_sound, size_of}
use Rattle.pages.specs.declared.maps.Map.{Map}
use Rattle.pages.specs.declared.maps.Placement.{Placement}
use Rattle.pages.specs.declared.maps.Size.{Size}
use Rattle.pages.proofs.Composing.{maps_compose}
use Rattle.pages.proofs.Scaling.{fit}
use Rattle.layers.specs.Laws.{SamePages, SelectAll, LeastMultiple, PadKeeps, four_turns, turned_once, TurnedOnce, FourTurnsAreNone, range}
use Rattle.layers.specs.Layering.{Parts, whole, layered, shown, exactly, followed_by}
use Rattle.layers.specs.Padding.{pad_count, pad_shows}
use Rattle.layers.specs.Selecting.{selected, page_or_blank, select_shows}
use Rattle.layers.specs.Turning.{turn_map}
use Rattle.layers.specs.declared.extent.Extent.{Extent}
use Rattle.layers.proofs.Selecting.{all-within, page_shown}
use Rattle.layers.proofs.Showing.{in_range}
use Rattle.layers.proofs.Starting.{same_map, same_exact}

-- ---- a page shown as it is

all_unmoved : (n : ℕ) (ps : List Placement) → all_sound n ps ≡ true → map (followed_by identity) ps ≡ ps
all_unmoved n [] a = refl
all_unmoved n (p ∷ ps) a =
    let f : fits p.map ≡ true = grind arith in
    let b : all_sound n ps ≡ true = grind arith in
    λ i. record { leaf = p.leaf; map = same_map p.map f i } ∷ all_unmoved n ps b i

exactly_page : (m : Meaning) (t : Map) (p : ℕ) → 1 ≤ p → p ≤ m.pages → exactly m (record { page = p; map = t } ∷ []) ≡ map (followed_by t) (m.page p)
exactly_page m t p a b = append-nil _ ∙ ap (map (followed_by t)) (cond-true _ _ _ (in_range p m.pages a b))

module _ (m : Meaning) (l : Lawful m) where
  as_it_is : (show : ℕ → Parts) (x : Extent) → ((p : ℕ) → 1 ≤ p → p ≤ m.pages → show p ≡ whole p ∷ []) → (p : ℕ) → 1 ≤ p → p ≤ m.pages → (layered show x m).page p ≡ m.page p
  as_it_is show x s p a b =
      (same_exact m l show m.pages refl s).all p a b ∙ ap (exactly m) (s p a b) ∙ exactly_page m identity p a b ∙ all_unmoved m.leaves (m.page p) (l.placed p a b)

-- ---- Select

all-pages : (n : ℕ) → 1 ≤ n → selected (range 1 n ∷ []) n ≡ range_with_len 1 n
all-pages n h =
    let k : n - 1 + 1 ≡ n = omega arith in
    append-nil _ ∙ cond-true _ _ _ (le-leb 1 n h) ∙ ap (range_with_len 1) k

all_shown : (m : Meaning) (p : ℕ) → 1 ≤ p → p ≤ m.pages → select_shows (range 1 m.pages ∷ []) m p ≡ whole p ∷ []
all_shown m p a b =
    let e : get_or (range_with_len 1 m.pages) (p - 1) 0 ≡ p = omega (arith, all-within m.pages (p - 1) (omega arith)) in
    ap (λ (xs : List ℕ). page_or_blank (get_or xs (p - 1) 0)) (all-pages m.pages (omega arith)) ∙ ap page_or_blank e ∙ page_shown p a

pub select-all : SelectAll
select-all m l h x e = record {
  number = e ∙ ap length (all-pages m.pages h) ∙ length-range_with_len 1 m.pages;
  each = as_it_is m l (select_shows (range 1 m.pages ∷ []) m) x (all_shown m);
}

-- ---- Pad

past : (p n : ℕ) → n < p → (leb 1 p && leb p n) ≡ false
past p n h = grind arith

least_multiple : (k n : ℕ) → 1 ≤ k → LeastMultiple k n (pad_count k n)
least_multiple k n h =
    let x : ℕ = n + (k - 1) in
    let d = div-add-mod' (n + (k - 1)) k in
    let b = mod_below (n + (k - 1)) k h in
    record {
      multiple = ap (λ (y : ℕ). y % k) (sym_add (pad_count k n)) ∙ mod-mul-add ((n + (k - 1)) / k) k 0 h;
      enough = omega arith;
      least = λ c e f.
          let u = div-add-mod' c k in
          let l : n + (k - 1) < (c / k + 1) * k = omega (arith, add-mul (c / k) 1 k, one-mul k) in
          let q = div_below (n + (k - 1)) k (c / k + 1) h l in
          let r : (n + (k - 1)) / k * k ≤ c / k * k = mul-le-mul_right k (omega arith) in
          omega arith;
    }
  where
    sym_add : (y : ℕ) → y ≡ y + 0
    sym_add y = omega arith

pub pad_keeps : PadKeeps
pad_keeps = record {
  kept = λ m l x p a b. as_it_is m l (pad_shows m) x (λ q c d. cond-true _ _ _ (in_range q m.pages c d)) p a b;
  blank = λ m x p h. ap (λ (xs : Parts). take max_placements (shown m xs)) (cond-false (has m p) (whole p ∷ []) [] (past p m.pages h));
  count = least_multiple;
}

-- ---- Turn

module _ (w h : ℕ) where
  abbrev once : Map
  once = turn_map 1 w h

  abbrev again : Map
  again = turn_map 1 h w

  abbrev round : Map
  round = followed (followed (followed once again) once) again

  round_is : round ≡ identity
  round_is =
      let x : round.x ≡ pos 0 = omega (arith, ints) in
      let y : round.y ≡ pos 0 = omega (arith, ints) in
      λ i. record { turn = 0; num = 1; den = 1; x = x i; y = y i }

  back_again : (t : Map) → t.turn ≤ max_turn → four_turns t w h ≡ t
  back_again t k =
      let group = maps_compose.grouped in
      ap (λ (s : Map). followed (followed s once) again) (group t once again)
      ∙ ap (λ (s : Map). followed s again) (group t (followed once again) once)
      ∙ group t (followed (followed once again) once) again
      ∙ ap (followed t) round_is
      ∙ maps_compose.last t k

  all_back : (n : ℕ) (ps : List Placement) → all_sound n ps ≡ true → map (followed_by again) (map (followed_by once) (map (followed_by again) (map (followed_by once) ps))) ≡ ps
  all_back n [] a = refl
  all_back n (p ∷ ps) a =
      let f : fits p.map ≡ true = grind arith in
      let b : all_sound n ps ≡ true = grind arith in
      λ i. record { leaf = p.leaf; map = back_again p.map (fit p.map f).quarter i } ∷ all_back n ps b i

-- one Turn of the four
module _ (m : Meaning) (x : Extent) (t : TurnedOnce m x) where
  wide : x.size.width ≡ m.height
  wide = ap (λ (z : Size). z.width) t.taken.size

  high : x.size.height ≡ m.width
  high = ap (λ (z : Size). z.height) t.taken.size

  turned_page : (w h : ℕ) → m.width ≡ w → m.height ≡ h → (p : ℕ) → 1 ≤ p → p ≤ m.pages → (turned_once m x).page p ≡ map (followed_by (turn_map 1 w h)) (m.page p)
  turned_page w h e f p a b =
      t.exact.all p a (omega (arith, t.taken.pages))
      ∙ exactly_page m (turn_map 1 m.width m.height) p a b
      ∙ ap (λ (n : ℕ). map (followed_by (turn_map 1 n m.height)) (m.page p)) e
      ∙ ap (λ (n : ℕ). map (followed_by (turn_map 1 w n)) (m.page p)) f

module _ (m : Meaning) (l : Lawful m) (a b c d : Extent)
    (ta : TurnedOnce m a) (tb : TurnedOnce (turned_once m a) b) (tc : TurnedOnce (turned_once (turned_once m a) b) c) (td : TurnedOnce (turned_once (turned_once (turned_once m a) b) c) d) where
  abbrev m1 : Meaning
  m1 = turned_once m a

  abbrev m2 : Meaning
  m2 = turned_once m1 b

  abbrev m3 : Meaning
  m3 = turned_once m2 c

  b_wide : b.size.width ≡ m.width
  b_wide = wide m1 b tb ∙ high m a ta

  b_high : b.size.height ≡ m.height
  b_high = high m1 b tb ∙ wide m a ta

  c_wide : c.size.width ≡ m.height
  c_wide = wide m2 c tc ∙ b_high

  c_high : c.size.height ≡ m.width
  c_high = high m2 c tc ∙ b_wide

  same_page : (p : ℕ) → 1 ≤ p → p ≤ m.pages → (turned_once m3 d).page p ≡ m.page p
  same_page p i j =
      let ja = ta.taken.pages in
      let jb = tb.taken.pages in
      let jc = tc.taken.pages in
      let w = m.width in
      let h = m.height in
      turned_page m3 d td h w c_wide c_high p i (omega arith)
      ∙ ap (map (followed_by (turn_map 1 h w)))
      (turned_page m2 c tc w h b_wide b_high p i (omega arith)
      ∙ ap (map (followed_by (turn_map 1 w h)))
      (turned_page m1 b tb h w (wide m a ta) (high m a ta) p i (omega arith)
      ∙ ap (map (followed_by (turn_map 1 h w))) (turned_page m a ta w h refl refl p i j)))
      ∙ all_back w h m.leaves (m.page p) (l.placed p i j)

  all_same : (d.size ≡ size_of m) × SamePages (turned_once m3 d) m
  all_same = (
    td.taken.size ∙ (λ i. record { width = c_high i; height = c_wide i }),
    record { number = td.taken.pages ∙ tc.taken.pages ∙ tb.taken.pages ∙ ta.taken.pages; each = same_page },
  )

pub four_turns_lem : FourTurnsAreNone
four_turns_lem = record { maps = λ t k w h. back_again w h t k; layers = all_same }
