-- Comments are read as they are written.
use Rattle.std.proofs.Common.{◌≡◌, ℕ, zero, suc, ◌+◌, ◌-◌, ◌*◌, ◌<◌, ◌≤◌, Bool, true, false, cond, not, ◌&&◌, ◌||◌, eqb, ltb, leb, ◌⊎◌, List, [], ◌∷◌, ◌++◌, length, get_or, take, drop, Some, None, codes, Option, sym, refl, ap, ◌∙◌, subst, inl, inr, ⊎_elim, one-add, arith, length-append, length-drop, take-append-drop}
use Rattle.std.specs.Str.{bytes_eq}
use Rattle.std.proofs.lemmas.Slice.Eq.{bytes_eq-Decides}
use Rattle.std.proofs.lemmas.Bool.{cond-true, cond-false, cond_both, cases_Bool, cases_lt, eqb-true, eqb-false, eq-eqb, ne_eqb, and_parts, and_from, or_parts, or_from, not-true, not_from_false, leb-true, le-leb, lt-ltb, le-ltb, ltb-true, ltb-false}
use Rattle.std.proofs.lemmas.List.{take_at, drop_at, append-nil, append_assoc, length-take-le}
use Rattle.pages.specs.declared.maps.Size.{Size}
use Rattle.pages.specs.Limits.{max_pages, max_side}
use Rattle.text.specs.Searches.{until}
use Rattle.dsc.specs.Values.{blanks, trim, word_of, past_word, digit, digits, number_of}
use Rattle.dsc.specs.Comments.{Kind, end_comments, trailer, pages, box, page, other, kind, keyword_of, keyword_or, strip, else_pages, else_box, else_page, paged, alone, at_most, side, sized, pages_of, box_of, label_len, paren_len, plain_len, label_of, past_label, ordinal_at, ordinal_of}
use Rattle.dsc.specs.Grammar.{spaces, Each, Not, Digit, value_from, Numeral, Bare, Enclosed, Label, PagesText, BoxText, PageText, CommentsAreWritten}
use Rattle.dsc.proofs.Spans.{number_digits, trim_stop, until_le}
use Rattle.dsc.proofs.Labels.{plain_at}

none_some : {A : Type 0} (a : A) → ◌≡◌ {A = Option A} None (Some a) → ⊥
none_some a e = let z : ◌≡◌ {A = ℕ} 0 1 = cc in omega arith

some_same : {A : Type 0} (a b : A) → ◌≡◌ {A = Option A} (Some a) (Some b) → a ≡ b
some_same a b e = cc

-- up to a byte c
until_free : (c : ℕ) (xs : List ℕ) → Each (Not c) (take (until c xs) xs)
until_free c [] = tt
until_free c (x ∷ xs) =
    cond_both (not (eqb x c)) _ _ (λ n. Each (Not c) (take n (x ∷ xs)))
    (λ t. subst (λ n. Each (Not c) (take n (x ∷ xs))) (sym (one-add (until c xs))) (eqb-false x c (not-true _ t), until_free c xs))
    (λ _. tt)

abbrev Stops : ℕ → List ℕ → Type 0
Stops c r = (r ≡ []) ⊎ ((s : List ℕ) × (r ≡ c ∷ s))

until_stops : (c : ℕ) (xs : List ℕ) → Stops c (drop (until c xs) xs)
until_stops c [] = inl refl
until_stops c (x ∷ xs) =
    cond_both (not (eqb x c)) _ _ (λ n. Stops c (drop n (x ∷ xs)))
    (λ t. subst (λ n. Stops c (drop n (x ∷ xs))) (sym (one-add (until c xs))) (until_stops c xs))
    (λ f. inr (xs, ap (λ y. y ∷ xs) (eqb-true x c (⊎_elim (λ t. t) (λ g. absurd (let z = not_from_false _ g in bad _ z f)) (cases_Bool (eqb x c))))))
  where
    bad : (b : Bool) → b ≡ true → b ≡ false → ⊥
    bad b p q = let z : ◌≡◌ {A = Bool} true false = sym p ∙ q in let w : ◌≡◌ {A = ℕ} 0 1 = ap (λ t. cond t 0 1) z in omega arith

until_at : (c : ℕ) (xs ys : List ℕ) → Each (Not c) xs → until c ys ≡ 0 → until c (xs ++ ys) ≡ length xs
until_at c [] ys h z = z
until_at c (x ∷ xs) ys h z = cond-true (not (eqb x c)) _ _ (not_from_false _ (ne_eqb _ _ h.0)) ∙ omega (arith, until_at c xs ys h.1 z)

until_none : (c : ℕ) (xs : List ℕ) → Each (Not c) xs → until c xs ≡ length xs
until_none c xs h = ap (until c) (sym (append-nil xs)) ∙ until_at c xs [] h refl

none_until : (c : ℕ) (xs : List ℕ) → length xs ≤ until c xs → Each (Not c) xs
none_until c xs l = subst (Each (Not c)) (ap (λ n. take n xs) (omega (arith, until_le c xs)) ∙ whole xs) (until_free c xs)
  where
    whole : (ys : List ℕ) → take (length ys) ys ≡ ys
    whole ys = ap (take (length ys)) (sym (append-nil ys)) ∙ take_at ys [] (length ys) refl

-- blanks
spaced : (v : List ℕ) → v ≡ spaces (blanks v) ++ trim v
spaced [] = refl
spaced (x ∷ xs) =
    cond_both (eqb x 32) _ _ (λ n. x ∷ xs ≡ spaces n ++ drop n (x ∷ xs))
    (λ t. ap (λ y. y ∷ xs) (eqb-true x 32 t) ∙ ap (λ l. 32 ∷ l) (spaced xs) ∙ sym (ap (λ n. spaces n ++ drop n (x ∷ xs)) (one-add (blanks xs))))
    (λ _. refl)

trim_first : (v : List ℕ) → get_or (trim v) 0 0 ≡ 32 → ⊥
trim_first [] = λ e. omega (arith, e)
trim_first (x ∷ xs) =
    cond_both (eqb x 32) _ _ (λ n. get_or (drop n (x ∷ xs)) 0 0 ≡ 32 → ⊥)
    (λ t e. trim_first xs (sym (ap (λ n. get_or (drop n (x ∷ xs)) 0 0) (one-add (blanks xs))) ∙ e))
    (λ f e. eqb-false x 32 f e)

trim_spaces : (a : ℕ) (x : List ℕ) → trim (spaces a ++ x) ≡ trim x
trim_spaces zero x = refl
trim_spaces (suc a) x = ap (λ n. drop n (32 ∷ (spaces a ++ x))) (one-add (blanks (spaces a ++ x))) ∙ trim_spaces a x

trim_all : (a : ℕ) → trim (spaces a) ≡ []
trim_all a = ap trim (sym (append-nil (spaces a))) ∙ trim_spaces a []

-- words
trim_parts : (v : List ℕ) → trim v ≡ word_of v ++ past_word v
trim_parts v = sym (take-append-drop (until 32 (trim v)) (trim v))

no_word : (v : List ℕ) → length (word_of v) ≡ 0 → trim v ≡ []
no_word v = by (trim v) (trim_first v)
  where
    by : (x : List ℕ) → (get_or x 0 0 ≡ 32 → ⊥) → length (take (until 32 x) x) ≡ 0 → x ≡ []
    by [] f e = refl
    by (b ∷ x) f e = absurd (omega (arith, sym (ap (λ n. length (take n (b ∷ x))) (cond-true (not (eqb b 32)) (1 + until 32 x) 0 (not_from_false _ (ne_eqb _ _ f)) ∙ one-add (until 32 x))) ∙ e))

only_spaces : (v : List ℕ) → length (word_of v) ≡ 0 → v ≡ spaces (blanks v)
only_spaces v e = spaced v ∙ ap (λ x. spaces (blanks v) ++ x) (no_word v e) ∙ append-nil (spaces (blanks v))

module _ (a : ℕ) (w r : List ℕ) (some : 1 ≤ length w) (free : Each (Not 32) w) (stop : until 32 r ≡ 0) where
  starts : (x : List ℕ) → 1 ≤ length x → Each (Not 32) x → get_or (x ++ r) 0 0 ≡ 32 → ⊥
  starts [] l f e = omega arith
  starts (b ∷ x) l f e = f.0 e

  trimmed : trim (spaces a ++ (w ++ r)) ≡ w ++ r
  trimmed = trim_spaces a (w ++ r) ∙ trim_stop (w ++ r) (starts w some free)

  pub word_made : word_of (spaces a ++ (w ++ r)) ≡ w
  word_made = ap (λ x. take (until 32 x) x) trimmed ∙ take_at w r (until 32 (w ++ r)) (sym (until_at 32 w r free stop))

  pub past_made : past_word (spaces a ++ (w ++ r)) ≡ r
  past_made = ap (λ x. drop (until 32 x) x) trimmed ∙ drop_at w r (until 32 (w ++ r)) (sym (until_at 32 w r free stop))

spaces_stop : (a : ℕ) → until 32 (spaces a) ≡ 0
spaces_stop zero = refl
spaces_stop (suc a) = refl

no_word_made : (a : ℕ) → length (word_of (spaces a)) ≡ 0
no_word_made a = ap (λ x. length (take (until 32 x) x)) (trim_all a)

-- numbers
digits_are : (w : List ℕ) (a n : ℕ) → digits a w ≡ Some n → Each Digit w × (value_from a w ≡ n)
digits_are [] a n = λ e. (tt, some_same a n e)
digits_are (b ∷ w) a n =
    cond_both (digit b) _ _ (λ o. o ≡ Some n → Each Digit (b ∷ w) × (value_from a (b ∷ w) ≡ n))
    (λ t e. let p = and_parts (leb 48 b) (leb b 57) t in let r = digits_are w (a * 10 + (b - 48)) n e in (((leb-true _ _ p.0, leb-true _ _ p.1), r.0), r.1))
    (λ _ e. absurd (none_some n e))

digits_make : (w : List ℕ) (a : ℕ) → Each Digit w → digits a w ≡ Some (value_from a w)
digits_make [] a h = refl
digits_make (b ∷ w) a h = cond-true (digit b) _ _ (and_from _ _ (le-leb _ _ h.0.0) (le-leb _ _ h.0.1)) ∙ digits_make w (a * 10 + (b - 48)) h.1

number_is : (w : List ℕ) (n : ℕ) → number_of w ≡ Some n → Numeral w n
number_is w n =
    cond_both (ltb 0 (length w) && leb (length w) 5) _ _ (λ o. o ≡ Some n → Numeral w n)
    (λ t e. let p = and_parts (ltb 0 (length w)) (leb (length w) 5) t in let r = digits_are w 0 n e in record { some = ltb-true _ _ p.0; few = leb-true _ _ p.1; digits = r.0; value = r.1 })
    (λ _ e. absurd (none_some n e))

number_make : (w : List ℕ) (n : ℕ) → Numeral w n → number_of w ≡ Some n
number_make w n h = number_digits w h.some h.few ∙ digits_make w 0 h.digits ∙ ap (λ m. Some m) h.value

-- no byte below the digits is among them
pub digits_not : (c : ℕ) (w : List ℕ) → c < 48 → Each Digit w → Each (Not c) w
digits_not c [] l h = tt
digits_not c (b ∷ w) l h = ((λ e. omega (arith, e, h.0.0)), digits_not c w l h.1)

pub digits_free : (w : List ℕ) → Each Digit w → Each (Not 32) w
digits_free w h = digits_not 32 w (omega arith) h

-- a value that stands alone
alone_is : {A : Type 0} (rest : List ℕ) (o : Option A) (n : A) → alone rest o ≡ Some n → (length (word_of rest) ≡ 0) × (o ≡ Some n)
alone_is rest o n =
    cond_both (eqb (length (word_of rest)) 0) _ _ (λ p. p ≡ Some n → (length (word_of rest) ≡ 0) × (o ≡ Some n))
    (λ t e. (eqb-true _ _ t, e))
    (λ _ e. absurd (none_some n e))

at_most_is : (m : ℕ) (o : Option ℕ) (n : ℕ) → at_most m o ≡ Some n → (o ≡ Some n) × (n ≤ m)
at_most_is m None n = λ e. absurd (none_some n e)
at_most_is m (Some k) n =
    cond_both (leb k m) _ _ (λ o. o ≡ Some n → (Some k ≡ Some n) × (n ≤ m))
    (λ t e. (e, subst (λ j. j ≤ m) (some_same k n e) (leb-true _ _ t)))
    (λ _ e. absurd (none_some n e))

-- the number and blanks at the end of a comment
record Tail (v : List ℕ) (n : ℕ) : Type 0 where
  before : ℕ
  behind : ℕ
  number : List ℕ
  is : v ≡ spaces before ++ (number ++ spaces behind)
  numeral : Numeral number n

tail_is : (v : List ℕ) (n : ℕ) → length (word_of (past_word v)) ≡ 0 → number_of (word_of v) ≡ Some n → Tail v n
tail_is v n e m = record {
  before = blanks v;
  behind = blanks (past_word v);
  number = word_of v;
  is = spaced v ∙ ap (λ x. spaces (blanks v) ++ x) (trim_parts v ∙ ap (λ x. word_of v ++ x) (only_spaces (past_word v) e));
  numeral = number_is (word_of v) n m;
}

module _ (a : ℕ) (ds r : List ℕ) (n : ℕ) (h : Numeral ds n) (stop : until 32 r ≡ 0) where
  number_at : number_of (word_of (spaces a ++ (ds ++ r))) ≡ Some n
  number_at = ap number_of (word_made a ds r h.some (digits_free ds h.digits) stop) ∙ number_make ds n h

  past_number : past_word (spaces a ++ (ds ++ r)) ≡ r
  past_number = past_made a ds r h.some (digits_free ds h.digits) stop

module _ (a c : ℕ) (ds : List ℕ) (n : ℕ) (h : Numeral ds n) where
  tail_alone : {A : Type 0} (o : Option A) → alone (past_word (spaces a ++ (ds ++ spaces c))) o ≡ o
  tail_alone o = cond-true _ _ _ (eq-eqb _ _ (ap (λ x. length (word_of x)) (past_number a ds (spaces c) n h (spaces_stop c)) ∙ no_word_made c))

  tail_number : number_of (word_of (spaces a ++ (ds ++ spaces c))) ≡ Some n
  tail_number = number_at a ds (spaces c) n h (spaces_stop c)

-- the text behind a keyword
abbrev pub Reads : List ℕ → Kind → Type 0
Reads t end_comments = t ≡ codes "%%EndComments"
Reads t trailer = t ≡ codes "%%Trailer"
Reads t (pages v) = (x : List ℕ) × (t ≡ codes "%%Pages:" ++ x) × (v ≡ pages_of x)
Reads t (box v) = (x : List ℕ) × (t ≡ codes "%%BoundingBox:" ++ x) × (v ≡ box_of x)
Reads t (page l o) = (x : List ℕ) × (t ≡ codes "%%Page:" ++ x) × (page l o ≡ paged (label_of x) (ordinal_of x))
Reads t other = Unit {0}

reads_page : (t x l : List ℕ) (o : Option ℕ) → t ≡ codes "%%Page:" ++ x → paged l o ≡ paged (label_of x) (ordinal_of x) → Reads t (paged l o)
reads_page t x l None e p = (x, e, p)
reads_page t x l (Some n) e p = (x, e, p)

front : (k r : List ℕ) → bytes_eq (take (length k) r) k ≡ true → r ≡ k ++ drop (length k) r
front k r e = sym (take-append-drop (length k) r) ∙ ap (λ x. x ++ drop (length k) r) ((bytes_eq-Decides (take (length k) r) k).0 e)

keyword_reads : (t r : List ℕ) → t ≡ 37 ∷ 37 ∷ r → Reads t (keyword_of r)
keyword_reads t r is =
    cond_both (bytes_eq r (codes "EndComments")) _ _ (Reads t) (λ e. is ∙ ap (λ x. 37 ∷ 37 ∷ x) ((bytes_eq-Decides r (codes "EndComments")).0 e))
    (λ _. cond_both (bytes_eq r (codes "Trailer")) _ _ (Reads t) (λ e. is ∙ ap (λ x. 37 ∷ 37 ∷ x) ((bytes_eq-Decides r (codes "Trailer")).0 e))
    (λ _. cond_both (bytes_eq (take 6 r) (codes "Pages:")) _ _ (λ o. Reads t (else_pages o (else_box (strip (codes "BoundingBox:") r) (else_page (strip (codes "Page:") r))))) (λ e. (drop 6 r, is ∙ ap (λ x. 37 ∷ 37 ∷ x) (front (codes "Pages:") r e), refl))
    (λ _. cond_both (bytes_eq (take 12 r) (codes "BoundingBox:")) _ _ (λ o. Reads t (else_box o (else_page (strip (codes "Page:") r)))) (λ e. (drop 12 r, is ∙ ap (λ x. 37 ∷ 37 ∷ x) (front (codes "BoundingBox:") r e), refl))
    (λ _. cond_both (bytes_eq (take 5 r) (codes "Page:")) _ _ (λ o. Reads t (else_page o)) (λ e. reads_page t (drop 5 r) (label_of (drop 5 r)) (ordinal_of (drop 5 r)) (is ∙ ap (λ x. 37 ∷ 37 ∷ x) (front (codes "Page:") r e)) refl)
    (λ _. tt)))))

marked : (t : List ℕ) → (eqb (get_or t 0 0) 37 && eqb (get_or t 1 0) 37) ≡ true → t ≡ 37 ∷ 37 ∷ drop 2 t
marked [] e = absurd (omega (arith, eqb-true 0 37 (and_parts (eqb 0 37) (eqb 0 37) e).0))
marked (a ∷ []) e = absurd (omega (arith, eqb-true 0 37 (and_parts (eqb a 37) (eqb 0 37) e).1))
marked (a ∷ b ∷ t) e = let p = and_parts (eqb a 37) (eqb b 37) e in ap (λ x. x ∷ b ∷ t) (eqb-true a 37 p.0) ∙ ap (λ x. 37 ∷ x ∷ t) (eqb-true b 37 p.1)

pub kind_reads : (t : List ℕ) → Reads t (kind t)
kind_reads t = cond_both (eqb (get_or t 0 0) 37 && eqb (get_or t 1 0) 37) _ _ (λ o. Reads t (keyword_or o)) (λ e. keyword_reads t (drop 2 t) (marked t e)) (λ _. tt)

-- Pages
pub pages_are : (t : List ℕ) (n : ℕ) → kind t ≡ pages (Some n) → PagesText t n
pages_are t n k =
    let r = subst (Reads t) k (kind_reads t) in
    let v = r.0 in
    let p = alone_is (past_word v) (at_most max_pages (number_of (word_of v))) n (sym r.2) in
    let q = at_most_is max_pages (number_of (word_of v)) n p.1 in
    let l = tail_is v n p.0 q.0 in
    record { before = l.before; behind = l.behind; count = l.number; is = r.1 ∙ ap (λ x. codes "%%Pages:" ++ x) l.is; counted = l.numeral; few = q.1 }

pub pages_make : (t : List ℕ) (n : ℕ) → PagesText t n → kind t ≡ pages (Some n)
pages_make t n p =
    let v = spaces p.before ++ (p.count ++ spaces p.behind) in
    ap kind p.is
    ∙ ap pages (tail_alone p.before p.behind p.count n p.counted (at_most max_pages (number_of (word_of v))) ∙ ap (at_most max_pages) (tail_number p.before p.behind p.count n p.counted) ∙ cond-true _ _ _ (le-leb _ _ p.few))

-- Page: the label
pub paged_is : (l m : List ℕ) (o : Option ℕ) (n : ℕ) → page l (Some n) ≡ paged m o → (l ≡ m) × (o ≡ Some n)
paged_is l m None n e = absurd (let z : ◌≡◌ {A = ℕ} 0 1 = cc in omega arith)
paged_is l m (Some k) n e = ((cc), (cc))

-- a label of one word
bare_is : (x : List ℕ) → (get_or x 0 0 ≡ 32 → ⊥) → (plain_len x ≡ 0 → ⊥) → Bare (take (plain_len x) x)
bare_is x f =
    let w = word_of x in
    let whole : x ≡ w ++ past_word x = sym (trim_stop x f) ∙ trim_parts x in
    let cut : take (length w) x ≡ w = ap (take (length w)) whole ∙ take_at w (past_word x) (length w) refl in
    cond_both (ltb (until 40 w) (length w) || ltb (until 41 w) (length w)) 0 (length w) (λ n. (n ≡ 0 → ⊥) → Bare (take n x))
    (λ _ z. absurd (z refl))
    (λ g z.
    let p = or_parts (ltb (until 40 w) (length w)) (ltb (until 41 w) (length w)) g in
    let some : 1 ≤ length w = ⊎_elim (λ h. h) (λ h. absurd (z (omega arith))) (cases_lt 0 (length w)) in
    subst Bare (sym cut) (record { some = some; blankless = until_free 32 (trim x); closed = (none_until 40 w (ltb-false _ _ p.0), none_until 41 w (ltb-false _ _ p.1)) }))

-- a label in parentheses
stops_at : (xs : List ℕ) (u : ℕ) → u < length xs → Stops 41 (drop u xs) → (s : List ℕ) × (drop u xs ≡ 41 ∷ s)
stops_at xs u l (inl e) = absurd (omega (arith, sym (length-drop u xs) ∙ ap length e))
stops_at xs u l (inr r) = r

enclosed_is : (x : List ℕ) → get_or x 0 0 ≡ 40 → (paren_len x ≡ 0 → ⊥) → Enclosed (take (paren_len x) x)
enclosed_is [] f = λ z. absurd (omega (arith, f))
enclosed_is (b ∷ xs) f =
    let u = until 41 xs in
    let here : until 41 (b ∷ xs) ≡ 1 + u = cond-true (not (eqb b 41)) (1 + u) 0 (not_from_false _ (ne_eqb b 41 (λ e. omega (arith, e, f)))) in
    cond_both (ltb (until 41 (b ∷ xs)) (length (b ∷ xs))) (until 41 (b ∷ xs) + 1) 0 (λ n. (n ≡ 0 → ⊥) → Enclosed (take n (b ∷ xs)))
    (λ g z.
    let l : u < length xs = omega (arith, ltb-true _ _ g, here) in
    let s = stops_at xs u l (until_stops 41 xs) in
    let inner = take u xs in
    let long : length inner ≡ u = length-take-le u xs (omega arith) in
    let whole : xs ≡ (inner ++ 41 ∷ []) ++ s.0 = sym (take-append-drop u xs) ∙ ap (λ r. inner ++ r) s.1 ∙ sym (append_assoc inner (41 ∷ []) s.0) in
    let n : until 41 (b ∷ xs) + 1 ≡ suc (suc u) = omega (arith, here) in
    record {
      inner = inner;
      is = ap (λ m. take m (b ∷ xs)) n ∙ ap (λ c. c ∷ take (suc u) xs) f ∙ ap (λ r. 40 ∷ r) (ap (take (suc u)) whole ∙ take_at (inner ++ 41 ∷ []) s.0 (suc u) (length-append inner (41 ∷ []) ∙ omega (arith, long)));
      next = until_free 41 xs;
    })
    (λ _ z. absurd (z refl))

label_is : (x : List ℕ) → (get_or x 0 0 ≡ 32 → ⊥) → (label_len x ≡ 0 → ⊥) → Label (take (label_len x) x)
label_is x f =
    cond_both (eqb (get_or x 0 0) 40) (paren_len x) (plain_len x) (λ n. (n ≡ 0 → ⊥) → Label (take n x))
    (λ e z. inr (enclosed_is x (eqb-true _ _ e) z))
    (λ _ z. inl (bare_is x f z))

-- Page: the ordinal
ordinal_split : (v : List ℕ) (n : ℕ) → ordinal_of v ≡ Some n → (label_len (trim v) ≡ 0 → ⊥) × (ordinal_at (past_label v) ≡ Some n)
ordinal_split v n =
    cond_both (eqb (label_len (trim v)) 0) _ _ (λ o. o ≡ Some n → (label_len (trim v) ≡ 0 → ⊥) × (ordinal_at (past_label v) ≡ Some n))
    (λ _ e. absurd (none_some n e))
    (λ f e. (eqb-false _ _ f, e))

record Blank (r : List ℕ) (n : ℕ) : Type 0 where
  between : ℕ
  behind : ℕ
  number : List ℕ
  is : r ≡ 32 ∷ (spaces between ++ (number ++ spaces behind))
  numeral : Numeral number n

blank_first : (r : List ℕ) → get_or r 0 0 ≡ 32 → blanks r ≡ suc (blanks (drop 1 r))
blank_first [] e = absurd (omega (arith, e))
blank_first (b ∷ r) e = cond-true (eqb b 32) _ _ (eq-eqb _ _ e) ∙ one-add (blanks r)

ordinal_is : (r : List ℕ) (n : ℕ) → ordinal_at r ≡ Some n → Blank r n
unfolding tail_is
ordinal_is r n =
    cond_both (eqb (get_or r 0 0) 32) _ _ (λ o. o ≡ Some n → Blank r n)
    (λ t e.
    let p = alone_is (past_word r) (number_of (word_of r)) n e in
    let l = tail_is r n p.0 p.1 in
    record { between = blanks (drop 1 r); behind = l.behind; number = l.number; is = l.is ∙ ap (λ m. spaces m ++ (l.number ++ spaces l.behind)) (blank_first r (eqb-true _ _ t)); numeral = l.numeral })
    (λ _ e. absurd (none_some n e))

page_are : (t label : List ℕ) (n : ℕ) → kind t ≡ page label (Some n) → PageText t label n
page_are t label n k =
    let r = subst (Reads t) k (kind_reads t) in
    let v = r.0 in
    let x = trim v in
    let p = paged_is label (label_of v) (ordinal_of v) n r.2 in
    let q = ordinal_split v n p.1 in
    let o = ordinal_is (past_label v) n q.1 in
    record {
      before = blanks v;
      between = o.between;
      behind = o.behind;
      ordinal = o.number;
      is = r.1 ∙ ap (λ y. codes "%%Page:" ++ y) (spaced v ∙ ap (λ y. spaces (blanks v) ++ y) (sym (take-append-drop (label_len x) x) ∙ ap (λ y. y ++ past_label v) (sym p.0) ∙ ap (λ y. label ++ y) o.is));
      labelled = subst Label (sym p.0) (label_is x (trim_first v) q.0);
      numbered = o.numeral;
    }

-- the same, made
label_some : (l : List ℕ) → Label l → 1 ≤ length l
label_some l (inl h) = h.some
label_some l (inr h) = omega (arith, ap length h.is)

label_starts : (l r : List ℕ) → Label l → get_or (l ++ r) 0 0 ≡ 32 → ⊥
label_starts [] r (inl h) e = omega (arith, h.some)
label_starts (b ∷ l) r (inl h) e = h.blankless.0 e
label_starts l r (inr h) e = omega (arith, sym (ap (λ y. get_or (y ++ r) 0 0) h.is) ∙ e)

bare_open : (l r : List ℕ) → Bare l → get_or (l ++ r) 0 0 ≡ 40 → ⊥
bare_open [] r h e = omega (arith, h.some)
bare_open (b ∷ l) r h e = h.closed.0.0 e

label_long : (l r : List ℕ) → Label l → label_len (l ++ 32 ∷ r) ≡ length l
label_long l r (inl h) =
    let w : word_of (l ++ 32 ∷ r) ≡ l = word_made 0 l (32 ∷ r) h.some h.blankless refl in
    let a : ltb (until 40 l) (length l) ≡ false = le-ltb _ _ (omega (arith, until_none 40 l h.closed.0)) in
    let b : ltb (until 41 l) (length l) ≡ false = le-ltb _ _ (omega (arith, until_none 41 l h.closed.1)) in
    plain_at (l ++ 32 ∷ r) (bare_open l (32 ∷ r) h)
    ∙ ap (λ y. cond (ltb (until 40 y) (length y) || ltb (until 41 y) (length y)) 0 (length y)) w
    ∙ cond-false _ _ _ (or_from _ _ a b)
label_long l r (inr h) =
    let i = h.inner in
    let y = (i ++ 41 ∷ []) ++ 32 ∷ r in
    let u : until 41 y ≡ length i = ap (until 41) (append_assoc i (41 ∷ []) (32 ∷ r)) ∙ until_at 41 i (41 ∷ 32 ∷ r) h.next refl in
    let long : length y ≡ length i + 1 + length (32 ∷ r) = length-append (i ++ 41 ∷ []) (32 ∷ r) ∙ ap (λ m. m + length (32 ∷ r)) (length-append i (41 ∷ [])) in
    ap (λ z. label_len (z ++ 32 ∷ r)) h.is
    ∙ cond-true (ltb (1 + until 41 y) (suc (length y))) (1 + until 41 y + 1) 0 (lt-ltb _ _ (omega arith))
    ∙ omega (arith, u, ap length h.is, length-append i (41 ∷ []))

pub page_make : (t label : List ℕ) (n : ℕ) → PageText t label n → kind t ≡ page label (Some n)
page_make t label n p =
    let r = spaces p.between ++ (p.ordinal ++ spaces p.behind) in
    let x = label ++ 32 ∷ r in
    let v = spaces p.before ++ x in
    let is : trim v ≡ x = trim_spaces p.before x ∙ trim_stop x (label_starts label (32 ∷ r) p.labelled) in
    let long : label_len x ≡ length label = label_long label r p.labelled in
    let lab : label_of v ≡ label = ap (λ y. take (label_len y) y) is ∙ take_at label (32 ∷ r) (label_len x) (sym long) in
    let rest : past_label v ≡ 32 ∷ r = ap (λ y. drop (label_len y) y) is ∙ drop_at label (32 ∷ r) (label_len x) (sym long) in
    let some : label_len (trim v) ≡ 0 → ⊥ = λ e. omega (arith, label_some label p.labelled, sym (ap label_len is ∙ long) ∙ e) in
    let number : ordinal_at (32 ∷ r) ≡ Some n = tail_alone (suc p.between) p.behind p.ordinal n p.numbered (number_of (word_of (32 ∷ r))) ∙ tail_number (suc p.between) p.behind p.ordinal n p.numbered in
    ap kind p.is
    ∙ ap (λ y. paged y (ordinal_of v)) lab
    ∙ ap (paged label) (cond-false _ _ _ (ne_eqb _ _ some) ∙ ap ordinal_at rest ∙ number)

-- BoundingBox: four numbers
record Four (x y w h : Option ℕ) (z : Size) : Type 0 where
  left : x ≡ Some 0
  bottom : y ≡ Some 0
  right : w ≡ Some z.width
  top : h ≡ Some z.height
  wide : (1 ≤ z.width) × (z.width ≤ max_side)
  high : (1 ≤ z.height) × (z.height ≤ max_side)

side_is : (n : ℕ) → side n ≡ true → (1 ≤ n) × (n ≤ max_side)
side_is n e = let p = and_parts (leb 1 n) (leb n max_side) e in (leb-true _ _ p.0, leb-true _ _ p.1)

sized_is : (x y w h : Option ℕ) (z : Size) → sized x y w h ≡ Some z → Four x y w h z
sized_is (Some x) (Some y) (Some w) (Some h) z =
    cond_both ((eqb x 0 && eqb y 0) && (side w && side h)) _ _ (λ o. o ≡ Some z → Four (Some x) (Some y) (Some w) (Some h) z)
    (λ t e.
    let p = and_parts (eqb x 0 && eqb y 0) (side w && side h) t in
    let q = and_parts (eqb x 0) (eqb y 0) p.0 in
    let r = and_parts (side w) (side h) p.1 in
    let is : record { width = w; height = h } ≡ z = some_same _ z e in
    subst (Four (Some x) (Some y) (Some w) (Some h)) is (record { left = ap (λ n. Some n) (eqb-true x 0 q.0); bottom = ap (λ n. Some n) (eqb-true y 0 q.1); right = refl; top = refl; wide = side_is w r.0; high = side_is h r.1 }))
    (λ _ e. absurd (none_some z e))
sized_is None y w h z = λ e. absurd (none_some z e)
sized_is (Some x) None w h z = λ e. absurd (none_some z e)
sized_is (Some x) (Some y) None h z = λ e. absurd (none_some z e)
sized_is (Some x) (Some y) (Some w) None z = λ e. absurd (none_some z e)

-- a word behind a word: a blank parts them
parted : (v : List ℕ) (n : ℕ) → number_of (word_of (past_word v)) ≡ Some n → past_word v ≡ 32 ∷ (spaces (blanks (drop 1 (past_word v))) ++ (word_of (past_word v) ++ past_word (past_word v)))
parted v n e =
    let r = past_word v in
    spaced r ∙ ap (λ x. spaces (blanks r) ++ x) (trim_parts r)
    ∙ ap (λ m. spaces m ++ (word_of r ++ past_word r)) (blank_first r (starts_blank r n e (until_stops 32 (trim v))))
  where
    starts_blank : (r : List ℕ) (n : ℕ) → number_of (word_of r) ≡ Some n → Stops 32 r → get_or r 0 0 ≡ 32
    starts_blank r n e (inl s) = absurd (none_some n (sym (ap (λ x. number_of (word_of x)) s) ∙ e))
    starts_blank r n e (inr s) = ap (λ x. get_or x 0 0) s.1

pub box_are : (t : List ℕ) (z : Size) → kind t ≡ box (Some z) → BoxText t z
box_are t z k =
    let r = subst (Reads t) k (kind_reads t) in
    let a = r.0 in
    let b = past_word a in
    let c = past_word b in
    let d = past_word c in
    let e = past_word d in
    let p = alone_is e (sized (number_of (word_of a)) (number_of (word_of b)) (number_of (word_of c)) (number_of (word_of d))) z (sym r.2) in
    let f = sized_is (number_of (word_of a)) (number_of (word_of b)) (number_of (word_of c)) (number_of (word_of d)) z p.1 in
    let from-d : d ≡ 32 ∷ (spaces (blanks (drop 1 d)) ++ (word_of d ++ spaces (blanks e))) = parted c z.height f.top ∙ ap (λ x. 32 ∷ (spaces (blanks (drop 1 d)) ++ (word_of d ++ x))) (only_spaces e p.0) in
    let from-c = parted b z.width f.right ∙ ap (λ x. 32 ∷ (spaces (blanks (drop 1 c)) ++ (word_of c ++ x))) from-d in
    let from-b = parted a 0 f.bottom ∙ ap (λ x. 32 ∷ (spaces (blanks (drop 1 b)) ++ (word_of b ++ x))) from-c in
    record {
      before = blanks a;
      second = blanks (drop 1 b);
      third = blanks (drop 1 c);
      fourth = blanks (drop 1 d);
      behind = blanks e;
      left = word_of a;
      bottom = word_of b;
      right = word_of c;
      top = word_of d;
      is = r.1 ∙ ap (λ x. codes "%%BoundingBox:" ++ x) (spaced a ∙ ap (λ x. spaces (blanks a) ++ x) (trim_parts a ∙ ap (λ x. word_of a ++ x) from-b));
      origin = (number_is (word_of a) 0 f.left, number_is (word_of b) 0 f.bottom);
      corner = (number_is (word_of c) z.width f.right, number_is (word_of d) z.height f.top);
      wide = f.wide;
      high = f.high;
    }

abbrev boxed : List ℕ → List ℕ → List ℕ → List ℕ → List ℕ → Option Size
boxed a b c d e = alone e (sized (number_of (word_of a)) (number_of (word_of b)) (number_of (word_of c)) (number_of (word_of d)))

pub box_make : (t : List ℕ) (z : Size) → BoxText t z → kind t ≡ box (Some z)
box_make t z p =
    let d = 32 ∷ (spaces p.fourth ++ (p.top ++ spaces p.behind)) in
    let c = 32 ∷ (spaces p.third ++ (p.right ++ d)) in
    let b = 32 ∷ (spaces p.second ++ (p.bottom ++ c)) in
    let a = spaces p.before ++ (p.left ++ b) in
    let w = z.width in
    let h = z.height in
    ap kind p.is
    ∙ ap box (ap (λ r. boxed a r (past_word r) (past_word (past_word r)) (past_word (past_word (past_word r)))) (past_number p.before p.left b 0 p.origin.0 refl)
    ∙ ap (λ r. boxed a b r (past_word r) (past_word (past_word r))) (past_number (suc p.second) p.bottom c 0 p.origin.1 refl)
    ∙ ap (λ r. boxed a b c r (past_word r)) (past_number (suc p.third) p.right d w p.corner.0 refl)
    ∙ ap (λ r. boxed a b c d r) (past_number (suc p.fourth) p.top (spaces p.behind) h p.corner.1 (spaces_stop p.behind))
    ∙ cond-true _ _ _ (eq-eqb _ _ (no_word_made p.behind))
    ∙ ap (λ x. sized x (number_of (word_of b)) (number_of (word_of c)) (number_of (word_of d))) (number_at p.before p.left b 0 p.origin.0 refl)
    ∙ ap (λ x. sized (Some 0) x (number_of (word_of c)) (number_of (word_of d))) (number_at (suc p.second) p.bottom c 0 p.origin.1 refl)
    ∙ ap (λ x. sized (Some 0) (Some 0) x (number_of (word_of d))) (number_at (suc p.third) p.right d w p.corner.0 refl)
    ∙ ap (λ x. sized (Some 0) (Some 0) (Some w) x) (number_at (suc p.fourth) p.top (spaces p.behind) h p.corner.1 (spaces_stop p.behind))
    ∙ cond-true _ _ _ (and_from (side w) (side h) (and_from _ _ (le-leb _ _ p.wide.0) (le-leb _ _ p.wide.1)) (and_from _ _ (le-leb _ _ p.high.0) (le-leb _ _ p.high.1))))

pub written : CommentsAreWritten
written = record { end_are = λ t k. subst (Reads t) k (kind_reads t); end_make = refl; trailer_are = λ t k. subst (Reads t) k (kind_reads t); trailer_make = refl; pages_are = pages_are; pages_make = pages_make; box_are = box_are; box_make = box_make; page_are = page_are; page_make = page_make }
