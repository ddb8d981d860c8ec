-- Numbers and lines that are written out.
use Rattle.std.proofs.Common.{◌≡◌, ℕ, zero, suc, ◌+◌, ◌-◌, ◌<◌, ◌≤◌, true, eqb, List, [], ◌∷◌, ◌++◌, length, get_or, Some, codes, decimal, sym, refl, ap, ◌∙◌, inl, arith, length-append, rules}
use Rattle.std.proofs.lemmas.Str.Parse.{IsNumeralModel, numerals_by_fold}
use Rattle.std.proofs.lemmas.Fmt.{digits_decimal, digits_value-decimal, length-decimal-le, decimal_nonempty}
use Rattle.std.proofs.lemmas.Bool.{ne_eqb, cond-false, and_from, not_from_false}
use Rattle.std.proofs.lemmas.List.{append-nil, get_or-append_right}
use Rattle.pages.specs.Limits.{max_pages, max_side}
use Rattle.pages.specs.Inks.{plain, lines, last_byte, unbroken}
use Rattle.pages.proofs.Cuts.{done_one_piece}
use Rattle.pages.proofs.Lines.{last_push, text_line, line_short}
use Rattle.dsc.specs.Comments.{Kind, kind, pages, box, page}
use Rattle.dsc.specs.Documents.{Line}
use Rattle.dsc.specs.Grammar.{Each, Digit, value_from, Numeral}
use Rattle.dsc.specs.Printed.{row, box_text, pages_text, page_text}
use Rattle.dsc.proofs.Grammars.{digits_not, digits_free, pages_make, box_make, page_make}
use Rattle.dsc.proofs.Joined.{fed_closed}

own : IsNumeralModel (Each Digit) (value_from 0)
own = numerals_by_fold (Each Digit) (search rules) value_from (search rules)

pub numeral : (n : ℕ) → n < 100000 → Numeral (decimal n) n
numeral n small = record {
  some = decimal_nonempty n (omega arith);
  few = length-decimal-le 5 n (omega arith) (omega arith) (omega arith);
  digits = digits_decimal own n (omega arith);
  value = digits_value-decimal own n (omega arith);
}

zero_numeral : Numeral (48 ∷ []) 0
zero_numeral = record { some = omega arith; few = omega arith; digits = ((omega arith, omega arith), tt); value = refl }

pub page_kind : (s : ℕ) → s < 100000 → kind (page_text s) ≡ page (decimal s) (Some s)
page_kind s small =
    let d = numeral s small in
    page_make (page_text s) (decimal s) s (record {
      before = 1;
      between = 0;
      behind = 0;
      ordinal = decimal s;
      is = ap (λ x. codes "%%Page: " ++ (decimal s ++ (32 ∷ x))) (sym (append-nil (decimal s)));
      labelled = inl (record { some = d.some; blankless = digits_free (decimal s) d.digits; closed = (digits_not 40 (decimal s) (omega arith) d.digits, digits_not 41 (decimal s) (omega arith) d.digits) });
      numbered = d;
    })

pub pages_kind : (n : ℕ) → n ≤ max_pages → kind (pages_text n) ≡ pages (Some n)
pages_kind n few = pages_make (pages_text n) n (record {
  before = 1;
  behind = 0;
  count = decimal n;
  is = ap (λ x. codes "%%Pages: " ++ x) (sym (append-nil (decimal n)));
  counted = numeral n (omega arith);
  few = few;
})

pub box_kind : (w h : ℕ) → 1 ≤ w → w ≤ max_side → 1 ≤ h → h ≤ max_side → kind (box_text w h) ≡ box (Some (record { width = w; height = h }))
box_kind w h a b c d = box_make (box_text w h) (record { width = w; height = h }) (record {
  before = 1;
  second = 0;
  third = 0;
  fourth = 0;
  behind = 0;
  left = 48 ∷ [];
  bottom = 48 ∷ [];
  right = decimal w;
  top = decimal h;
  is = ap (λ x. codes "%%BoundingBox: 0 0 " ++ (decimal w ++ (32 ∷ x))) (sym (append-nil (decimal h)));
  origin = (zero_numeral, zero_numeral);
  corner = (numeral w (omega arith), numeral h (omega arith));
  wide = (a, b);
  high = (c, d);
})

pub unbroken_digs : (ds r : List ℕ) → Each Digit ds → unbroken r ≡ true → unbroken (ds ++ r) ≡ true
unbroken_digs [] r h c = c
unbroken_digs (b ∷ ds) r h c = and_from _ _ (not_from_false _ (ne_eqb _ _ (λ e. omega (arith, e, h.0.0)))) (unbroken_digs ds r h.1 c)

pub unbroken_only : (ds : List ℕ) → Each Digit ds → unbroken ds ≡ true
unbroken_only ds h = ap unbroken (sym (append-nil ds)) ∙ unbroken_digs ds [] h refl

digs_at : (ds : List ℕ) (i : ℕ) → Each Digit ds → i < length ds → 48 ≤ get_or ds i 0
digs_at [] i h l = absurd (omega arith)
digs_at (b ∷ ds) zero h l = h.0.0
digs_at (b ∷ ds) (suc i) h l = digs_at ds i h.1 (omega arith)

-- a text that ends with a number does not end with a carriage return
pub last_digs : (xs ds : List ℕ) → Each Digit ds → 0 < length ds → last_byte (xs ++ ds) ≡ 13 → ⊥
last_digs xs ds h l e =
    let long : length (xs ++ ds) ≡ length xs + length ds = length-append xs ds in
    let i : length (xs ++ ds) - 1 - length xs ≡ length ds - 1 = omega arith in
    omega (arith, digs_at ds (length ds - 1) h (omega arith), sym (ap (λ j. get_or ds j 0) i) ∙ sym (get_or-append_right xs ds (length xs) (length (xs ++ ds) - 1) 0 refl (omega arith)) ∙ e)

-- a line that is written out
pub row_line : (t : List ℕ) (k : Kind) → unbroken t ≡ true → (last_byte t ≡ 13 → ⊥) → kind t ≡ k → Line k (row t)
row_line t k u n e = record {
  closed = fed_closed t;
  single = done_one_piece lines plain t 10 (line_short [] t u) (ap (λ b. eqb b 10) (last_push t 10));
  means = ap kind (text_line t ∙ cond-false _ _ _ (ne_eqb _ _ n)) ∙ e;
}
