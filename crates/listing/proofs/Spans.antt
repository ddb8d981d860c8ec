-- How many parts there are, and their spans as the numbers of an index.
use Rattle.std.proofs.Common.{◌≡◌, ℕ, ◌+◌, ◌*◌, ◌≤◌, eqb, List, [], ◌∷◌, ◌++◌, length, Bool, leb, Some, None, Option, Ok, Decides, sym, refl, ap, ◌∙◌, append_assoc, arith, length-append}
use Rattle.std.specs.List.{flat_map}
use Rattle.std.proofs.lemmas.Bool.{cond_both, cond-true, le-leb, false≢true}
use Rattle.std.specs.Option.{option_eq}
use Rattle.pages.specs.Meaning.{written}
use Rattle.pages.specs.Splice.{splice}
use Rattle.text.proofs.Splices.{splice_splice}
use Rattle.pages.specs.declared.spans.Span.{Span}
use Rattle.pages.specs.Limits.{max_ink}
use Rattle.pages.specs.Spans.{pair, put_answer}
use Rattle.listing.specs.Extents.{extent}
use Rattle.listing.specs.Pages.{cut, onto}
use Rattle.listing.specs.Scans.{index_from}
use Rattle.listing.specs.Spans.{spans_from, spans_left}
use Rattle.listing.specs.declared.page_spans.PageSpans.{PageSpans}

extent_onto : (b n : ℕ) (ps : List (List ℕ)) → extent ps + 1 ≤ n → 2 ≤ n → extent (onto b ps) ≤ n
extent_onto b n [] h k = omega arith
extent_onto b n (p ∷ ps) h k = omega arith

pub length_extent : (ps : List (List ℕ)) → length ps ≤ extent ps
length_extent [] = omega arith
length_extent (p ∷ ps) = omega (arith, length_extent ps)

pub pairs_from : (at : ℕ) (ps : List (List ℕ)) → flat_map pair (spans_from at ps) ≡ index_from at ps
pairs_from at [] = refl
pairs_from at (p ∷ ps) = ap (λ z. at ∷ length p ∷ z) (pairs_from (at + length p + 1) ps)

pub length_spans : (at : ℕ) (ps : List (List ℕ)) → length (spans_from at ps) ≡ length ps
length_spans at [] = refl
length_spans at (p ∷ ps) = omega (arith, length_spans (at + length p + 1) ps)

-- parts take up no more than their bytes and one separator
pub extent_cut : (s : ℕ) (bs : List ℕ) → extent (cut s bs) ≤ length bs + 1
extent_cut s [] = omega arith
extent_cut s (b ∷ []) = cond_both (eqb b s) _ _ (λ ps. extent ps ≤ 2) (λ _. omega arith) (λ _. omega arith)
extent_cut s (b ∷ c ∷ cs) =
    cond_both (eqb b s) _ _ (λ ps. extent ps ≤ length (b ∷ c ∷ cs) + 1)
    (λ _. omega (arith, extent_cut s (c ∷ cs)))
    (λ _. extent_onto b (length (b ∷ c ∷ cs) + 1) (cut s (c ∷ cs)) (omega (arith, extent_cut s (c ∷ cs))) (omega arith))

pub few_left : (s : PageSpans) → length (spans_left s) ≤ max_ink + 1
few_left s = let ps = cut s.pages.separator s.pages.rest.now in omega (arith, length_spans s.at ps, length_extent ps, s.fits)

module _ (xs all : List ℕ) (ss more : List Span) (s : Span) (parts : xs ++ flat_map pair ss ≡ all) (step : ss ≡ s ∷ more) where
  pub pair_next : xs ++ (s.offset ∷ s.length ∷ flat_map pair more) ≡ all
  pair_next = ap (λ z. xs ++ flat_map pair z) (sym step) ∙ parts

  pub pair_put : (xs ++ pair s) ++ flat_map pair more ≡ all
  pair_put = append_assoc xs (pair s) (flat_map pair more) ∙ pair_next

  pub pair_room : length xs + 2 ≤ length all
  pair_room = omega (arith, ap length pair_next, length-append xs (s.offset ∷ s.length ∷ flat_map pair more))

-- where there is room, a span is put, and the index then holds it after what was put before
pub put_goes : (leaf n : ℕ) → 2 * leaf + 2 ≤ n → put_answer leaf n ≡ Ok tt
put_goes leaf n h = cond-true (leb (2 * leaf + 2) n) _ _ (le-leb _ _ h)

pub put_after : (index before xs : List ℕ) (k : ℕ) (s : Span) → before ≡ splice index 0 xs → length xs ≡ k → k + 2 ≤ length before → written (pair s) before k ≡ splice index 0 (xs ++ pair s)
put_after index before xs k s e n h =
    let m : k ≡ 0 + length xs = omega arith in
    cond-true (leb (k + 2) (length before)) _ _ (le-leb _ _ h) ∙ ap (λ b. splice b k (pair s)) e ∙ ap (λ j. splice (splice index 0 xs) j (pair s)) m
    ∙ splice_splice index 0 xs (pair s) (omega arith)

-- equality of spans that an option may hold
pub some_same : {A : Type 0} (eq : A → A → Bool) (s : A) → ((t : A) → Decides (eq t s) (t ≡ s)) → (o : Option A) → Decides (option_eq eq o (Some s)) (o ≡ Some s)
some_same eq s d None = ((λ e. absurd (false≢true e)), (λ e. absurd (let z : ◌≡◌ {A = ℕ} 0 1 = cc in omega arith)))
some_same eq s d (Some t) = ((λ e. ap Some ((d t).0 e)), (λ e. (d t).1 cc))

-- the spans of a whole file, as numbers
pub pairs_left : (s : PageSpans) (file : List ℕ) → s.at ≡ 0 → cut s.pages.separator s.pages.rest.now ≡ cut 12 file → flat_map pair (spans_left s) ≡ index_from 0 (cut 12 file)
pairs_left s file ea ec = (λ i. flat_map pair (spans_from (ea i) (ec i))) ∙ pairs_from 0 (cut 12 file)
