-- Ranges, and the pages that they select.
use Rattle.std.proofs.Common.{◌≡◌, ℕ, zero, suc, ◌+◌, ◌-◌, ◌<◌, ◌≤◌, Bool, true, false, cond, ◌&&◌, leb, ltb, ◌⊎◌, List, [], ◌∷◌, ◌++◌, length, get_or, drop, Some, None, Option, sym, refl, ap, ◌∙◌, inl, inr, ⊎_elim, append_assoc, add-one, arith, length-append, drop-cons}
use Rattle.std.specs.List.{find, flat_map, range_with_len}
use Rattle.std.specs.Bool.{then_some}
use Rattle.std.specs.Option.{option_or}
use Rattle.std.proofs.lemmas.List.Concat.{flat_map-append}
use Rattle.std.proofs.lemmas.List.Folds.{find-append}
use Rattle.std.proofs.lemmas.List.FromFn.{length-range_with_len, get_or-range_with_len}
use Rattle.std.proofs.lemmas.List.{get_or_append_left, get_or-append_right, get_or_past}
use Rattle.std.proofs.lemmas.Option.{slice_get_past}
use Rattle.std.proofs.lemmas.Bool.{cases_lt, cond-true, cond-false, cond_both, le-ltb, lt-ltb, le-leb, lt-leb, leb-true, ltb-false, and_left, and_right, and_from}
use Rattle.pages.specs.Limits.{max_pages}
use Rattle.pages.specs.Meaning.{Meaning, size_of}
use Rattle.pages.specs.declared.faults.Refusal.TheVariants.{NoSuch, TooMany}
use Rattle.layers.specs.Layering.{Below, all_below, whole}
use Rattle.layers.specs.Orders.{objection}
use Rattle.layers.specs.Selecting.{max_ranges, counting_down, pages_of, all_pages_of, selected, page_or_blank, unless_blank, select_shows, half_blank, missing, ranges_object, select_objects, SelectTaken}
use Rattle.layers.specs.declared.extent.Extent.{Extent}
use Rattle.layers.specs.declared.ranges.Range.{Range}
use Rattle.layers.proofs.Showing.{in_range}
use Rattle.layers.proofs.Slots.{drop-none}

length-counting_down : (a n : ℕ) → length (counting_down a n) ≡ n
length-counting_down a zero = refl
length-counting_down a (suc n) = ap suc (length-counting_down (a - 1) n)

get_d_counting_down : (a n i : ℕ) → i < n → get_or (counting_down a n) i 0 ≡ a - i
get_d_counting_down a zero i h = absurd (omega arith)
get_d_counting_down a (suc n) zero h = omega arith
get_d_counting_down a (suc n) (suc i) h = omega (arith, get_d_counting_down (a - 1) n i (omega arith))

-- ---- one range

module _ (r : Range) (h : r.first ≤ r.last) where
  upward : pages_of r ≡ range_with_len r.first (r.last - r.first + 1)
  upward = cond-true _ _ _ (le-leb r.first r.last h)

  pub span_up : length (pages_of r) ≡ r.last - r.first + 1
  span_up = ap length upward ∙ length-range_with_len r.first (r.last - r.first + 1)

  pub page_up : (i : ℕ) → i < length (pages_of r) → r.first + i ≡ get_or (pages_of r) i 0
  page_up i l = sym (ap (λ (xs : List ℕ). get_or xs i 0) upward ∙ get_or-range_with_len r.first (r.last - r.first + 1) i 0 (omega (arith, span_up)))

module _ (r : Range) (h : r.last < r.first) where
  downward : pages_of r ≡ counting_down r.first (r.first - r.last + 1)
  downward = cond-false _ _ _ (lt-leb r.first r.last h)

  pub span_down : length (pages_of r) ≡ r.first - r.last + 1
  span_down = ap length downward ∙ length-counting_down r.first (r.first - r.last + 1)

  pub page_down : (i : ℕ) → i < length (pages_of r) → r.first - i ≡ get_or (pages_of r) i 0
  page_down i l = sym (ap (λ (xs : List ℕ). get_or xs i 0) downward ∙ get_d_counting_down r.first (r.first - r.last + 1) i (omega (arith, span_down)))

-- ---- the first end that is missing

-- the ends of ranges one after another
abbrev ends : List Range → List ℕ
ends rs = flat_map (λ (r : Range). r.first ∷ r.last ∷ []) rs

missing_append : (rs qs : List Range) (n : ℕ) → missing (rs ++ qs) n ≡ option_or (missing rs n) (missing qs n)
missing_append rs qs n = ap (find (ltb n)) (flat_map-append (λ (r : Range). r.first ∷ r.last ∷ []) rs qs) ∙ find-append (ltb n) (ends rs) (ends qs)

pub missing_more : (rs qs : List Range) (n : ℕ) → missing rs n ≡ None → missing (rs ++ qs) n ≡ missing qs n
missing_more rs qs n e = missing_append rs qs n ∙ ap (λ (o : Option ℕ). option_or o (missing qs n)) e

pub missing_before : (rs qs : List Range) (n q : ℕ) → missing rs n ≡ Some q → missing (rs ++ qs) n ≡ Some q
missing_before rs qs n q e = missing_append rs qs n ∙ ap (λ (o : Option ℕ). option_or o (missing qs n)) e

-- ---- the ranges from the one at i on

module _ (rs : List Range) (i : ℕ) where
  module _ (l : i < length rs) where
    -- the range at i
    abbrev here : Range
    here = get_or rs i (record { first = 0; last = 0 })

    rest_is : drop i rs ≡ here ∷ drop (i + 1) rs
    rest_is = drop-cons rs i (record { first = 0; last = 0 }) l ∙ ap (λ (j : ℕ). here ∷ drop j rs) (sym (add-one i))

    pages_are : all_pages_of (drop i rs) ≡ pages_of here ++ all_pages_of (drop (i + 1) rs)
    pages_are = ap all_pages_of rest_is

    pub total_more : length (all_pages_of (drop i rs)) ≡ length (pages_of here) + length (all_pages_of (drop (i + 1) rs))
    total_more = ap length pages_are ∙ length-append (pages_of here) (all_pages_of (drop (i + 1) rs))

    pub page_here : (n p : ℕ) → n ≡ length (pages_of here) → p < n → get_or (all_pages_of (drop i rs)) p 0 ≡ get_or (pages_of here) p 0
    page_here n p f h = ap (λ (xs : List ℕ). get_or xs p 0) pages_are ∙ get_or_append_left (pages_of here) (all_pages_of (drop (i + 1) rs)) 0 p (omega arith)

    pub page_on : (n p : ℕ) → n ≡ length (pages_of here) → n ≤ p → get_or (all_pages_of (drop i rs)) p 0 ≡ get_or (all_pages_of (drop (i + 1) rs)) (p - n) 0
    page_on n p f h = ap (λ (xs : List ℕ). get_or xs p 0) pages_are ∙ get_or-append_right (pages_of here) (all_pages_of (drop (i + 1) rs)) n p 0 (sym f) h

    module _ (n : ℕ) where
      pub missing_here : (e : ℕ) → missing (here ∷ []) n ≡ Some e → missing (drop i rs) n ≡ Some e
      missing_here e h = ap (λ (xs : List Range). missing xs n) rest_is ∙ missing_before (here ∷ []) (drop (i + 1) rs) n e h

      pub missing_on : missing (here ∷ []) n ≡ None → missing (drop i rs) n ≡ missing (drop (i + 1) rs) n
      missing_on h = ap (λ (xs : List Range). missing xs n) rest_is ∙ missing_more (here ∷ []) (drop (i + 1) rs) n h

  pub over : length rs ≤ i → drop i rs ≡ []
  over h = drop-none rs i (slice_get_past rs i h)

-- ---- one range more

pub pages_more : (rs qs : List Range) → all_pages_of (rs ++ qs) ≡ all_pages_of rs ++ all_pages_of qs
pages_more [] qs = refl
pages_more (r ∷ rs) qs = ap (λ (xs : List ℕ). pages_of r ++ xs) (pages_more rs qs) ∙ sym (append_assoc (pages_of r) (all_pages_of rs) (all_pages_of qs))

pub total_added : (rs : List Range) (r : Range) → length (all_pages_of (rs ++ r ∷ [])) ≡ length (all_pages_of rs) + length (pages_of r)
total_added rs r =
    let a = ap length (pages_more rs (r ∷ [])) ∙ length-append (all_pages_of rs) (pages_of r ++ []) in
    let b : length (pages_of r ++ []) ≡ length (pages_of r) + 0 = length-append (pages_of r) [] in
    omega arith

none_missing : (a b : Bool) (x : Option ℕ) (p q : ℕ) → cond a (Some p) (cond b (Some q) x) ≡ None → (a ≡ false) × (b ≡ false) × (x ≡ None)
none_missing false false x p q e = (refl, refl, e)
none_missing false true x p q e = let o : ◌≡◌ {A = ℕ} 0 1 = cc in absurd (omega arith)
none_missing true b x p q e = let o : ◌≡◌ {A = ℕ} 0 1 = cc in absurd (omega arith)

-- ---- what is selected

pub some_selected : (rs : List Range) (n : ℕ) → 1 ≤ length rs → selected rs n ≡ all_pages_of rs
some_selected [] n h = absurd (omega arith)
some_selected (r ∷ rs) n h = refl

-- with no range, all pages
pub all-selected : (rs : List Range) (n i : ℕ) → length rs ≡ 0 → get_or (selected rs n) i 0 ≡ get_or (range_with_len 1 n) i 0
all-selected [] n i h = refl
all-selected (r ∷ rs) n i h = absurd (omega arith)

pub all-within : (n i : ℕ) → i < n → get_or (range_with_len 1 n) i 0 ≡ i + 1
all-within n i h = omega (arith, get_or-range_with_len 1 n i 0 h)

pub all_past : (n i : ℕ) → n ≤ i → get_or (range_with_len 1 n) i 0 ≡ 0
all_past n i h = get_or_past (range_with_len 1 n) i 0 (omega (arith, length-range_with_len 1 n))

-- the number of a page is not that of a blank
pub no_blank : (q : ℕ) → 1 ≤ q → unless_blank q ≡ Some q
no_blank zero h = absurd (omega arith)
no_blank (suc q) h = refl

-- with no range, the page at an index, if there is one
pub all_numbered : (rs : List Range) (n i : ℕ) → length rs ≡ 0 → then_some (ltb i n) (i + 1) ≡ unless_blank (get_or (selected rs n) i 0)
all_numbered rs n i h = ⊎_elim (λ (l : i < n).
    ap (λ (b : Bool). then_some b (i + 1)) (lt-ltb i n l) ∙ sym (no_blank (i + 1) (omega arith)) ∙ ap unless_blank (sym (all-selected rs n i h ∙ all-within n i l)))
    (λ (l : n ≤ i). ap (λ (b : Bool). then_some b (i + 1)) (le-ltb i n l) ∙ ap unless_blank (sym (all-selected rs n i h ∙ all_past n i l))) (cases_lt i n)

pub page_shown : (q : ℕ) → 1 ≤ q → page_or_blank q ≡ whole q ∷ []
page_shown zero h = absurd (omega arith)
page_shown (suc q) h = refl

pub all_shown : (m : Meaning) (p : ℕ) → 1 ≤ p → p ≤ m.pages → select_shows [] m p ≡ whole p ∷ []
all_shown m p a b =
    let e : get_or (range_with_len 1 m.pages) (p - 1) 0 ≡ p = omega (arith, all-within m.pages (p - 1) (omega arith)) in
    ap page_or_blank e ∙ page_shown p a

-- ---- the pages that are selected are below

abbrev Low : ℕ → List ℕ → Type 0
Low n xs = (i : ℕ) → get_or xs i 0 ≤ n

low_counting : (n a k : ℕ) → a + k ≤ n + 1 → Low n (range_with_len a k)
low_counting n a zero h i = omega arith
low_counting n a (suc k) h zero = omega arith
low_counting n a (suc k) h (suc i) = low_counting n (a + 1) k (omega arith) i

low_counting_down : (n a k : ℕ) → a ≤ n → Low n (counting_down a k)
low_counting_down n a zero h i = omega arith
low_counting_down n a (suc k) h zero = h
low_counting_down n a (suc k) h (suc i) = low_counting_down n (a - 1) k (omega arith) i

low_append : (n : ℕ) (xs ys : List ℕ) → Low n xs → Low n ys → Low n (xs ++ ys)
low_append n [] ys a b i = b i
low_append n (x ∷ xs) ys a b zero = a zero
low_append n (x ∷ xs) ys a b (suc i) = low_append n xs ys (λ j. a (suc j)) b i

low_all : (n : ℕ) (rs : List Range) → missing rs n ≡ None → Low n (all_pages_of rs)
low_all n [] e = λ i. omega arith
low_all n (r ∷ rs) e =
    let h = none_missing (ltb n r.first) (ltb n r.last) (missing rs n) r.first r.last e in
    let a = ltb-false n r.first h.0 in
    let b = ltb-false n r.last h.1 in
    low_append n (pages_of r) (all_pages_of rs)
    (cond_both (leb r.first r.last) _ _ (Low n)
    (λ t. let l = leb-true r.first r.last t in low_counting n r.first (r.last - r.first + 1) (omega arith))
    (λ _. low_counting_down n r.first (r.first - r.last + 1) a))
    (low_all n rs h.2)

low_selected : (n : ℕ) (rs : List Range) → missing rs n ≡ None → Low n (selected rs n)
low_selected n [] e = low_counting n 1 n (omega arith)
low_selected n (r ∷ rs) e = low_all n (r ∷ rs) e

page_below : (m : Meaning) (q : ℕ) → q ≤ m.pages → all_below m (page_or_blank q) ≡ true
page_below m zero h = refl
page_below m (suc q) h = ap (λ (v : Bool). v && true) (in_range (suc q) m.pages (omega arith) h)

pub select_below : (rs : List Range) (m : Meaning) (n : ℕ) → missing rs m.pages ≡ None → Below (select_shows rs m) n m
select_below rs m n e p _ _ = page_below m (get_or (selected rs m.pages) (p - 1) 0) (low_selected m.pages rs e (p - 1))

-- ---- the checks of an order

module _ (rs : List Range) (r : Range) (m : Meaning) (n : ℕ) (e : n ≡ m.pages) (w : half_blank r ≡ false) where
  abbrev all : List Range
  all = rs ++ r ∷ []

  whole_order : select_objects rs r m ≡ ranges_object (missing all m.pages) (length all) (length (all_pages_of all))
  whole_order = cond-false _ _ _ w

  objects_at : (o : Option ℕ) → missing all n ≡ o → select_objects rs r m ≡ ranges_object o (length all) (length (all_pages_of all))
  objects_at o h = whole_order ∙ ap (λ (x : Option ℕ). ranges_object x (length all) (length (all_pages_of all))) (ap (missing all) (sym e) ∙ h)

  pub old_missing : (q : ℕ) → missing rs n ≡ Some q → select_objects rs r m ≡ Some (objection NoSuch q)
  old_missing q h = objects_at (Some q) (missing_before rs (r ∷ []) n q h)

  module _ (f : missing rs n ≡ None) where
    pub new_missing : (q : ℕ) → missing (r ∷ []) n ≡ Some q → select_objects rs r m ≡ Some (objection NoSuch q)
    new_missing q h = objects_at (Some q) (missing_more rs (r ∷ []) n f ∙ h)

    module _ (g : missing (r ∷ []) n ≡ None) where
      all_there : missing all n ≡ None
      all_there = missing_more rs (r ∷ []) n f ∙ g

      pub too_many : (max_ranges < length all) ⊎ (max_pages < length (all_pages_of all)) → select_objects rs r m ≡ Some (objection TooMany 0)
      too_many h = objects_at None all_there ∙ cond-false _ _ _ (elim h [
        | inl a ↦ and_left (leb (length all) max_ranges) (leb (length (all_pages_of all)) max_pages) (lt-leb (length all) max_ranges a)
        | inr b ↦ and_right (leb (length all) max_ranges) (leb (length (all_pages_of all)) max_pages) (lt-leb (length (all_pages_of all)) max_pages b)
      ])

      pub nothing : length all ≤ max_ranges → length (all_pages_of all) ≤ max_pages → select_objects rs r m ≡ None
      nothing a b = objects_at None all_there
          ∙ cond-true _ _ _ (and_from (leb (length all) max_ranges) (leb (length (all_pages_of all)) max_pages) (le-leb (length all) max_ranges a) (le-leb (length (all_pages_of all)) max_pages b))

      pub taken : (qs : List Range) (x : Extent) → qs ≡ all → x.size ≡ size_of m → x.pages ≡ length (all_pages_of all) → SelectTaken rs r m qs x
      taken qs x a b c =
          let l : 1 ≤ length all = omega (arith, length-append rs (r ∷ [])) in
          record {
            added = a;
            size = b;
            pages = c ∙ sym (ap length (ap (λ (xs : List Range). selected xs m.pages) a ∙ some_selected all m.pages l));
            below = select_below qs m x.pages (ap (λ (xs : List Range). missing xs m.pages) a ∙ ap (missing all) (sym e) ∙ all_there);
          }
