-- The pair of a page in the index, and the bytes that it finds.
use Rattle.std.proofs.Common.{◌≡◌, ℕ, zero, suc, ◌+◌, ◌-◌, ◌*◌, ◌<◌, ◌≤◌, List, [], ◌∷◌, length, get_or, take, drop, sym, ap, ◌∙◌, subst, arith, length-drop, length-take}
use Rattle.std.proofs.lemmas.List.{drop-drop, get_or-take, length-take-le}
use Rattle.text.specs.Searches.{until}
use Rattle.text.proofs.Searches.{until_le}
use Rattle.listing.specs.Meaning.{page_of}
use Rattle.listing.specs.Pages.{cut}
use Rattle.listing.specs.Scans.{Indexed, file_index, index_from}
use Rattle.pages.specs.Spans.{pair}
use Rattle.pages.specs.declared.spans.Span.{Span}
use Rattle.listing.proofs.Cuts.{cut_step, length-index}
use Rattle.listing.proofs.Pairs.{pair_read}

-- in bytes that begin at a place of the file, an offset and a length find a part
pub record Found (at : ℕ) (bs : List ℕ) (o n : ℕ) (part : List ℕ) : Type 0 where
  pub low : at ≤ o
  pub within : o - at + n ≤ length bs
  pub bytes : take n (drop (o - at) bs) ≡ part

some_cut : (bs : List ℕ) (i : ℕ) → i < length (cut 12 bs) → 0 < length bs
some_cut [] i h = absurd (omega arith)
some_cut (b ∷ bs) i h = omega arith

found_later : (at u : ℕ) (bs : List ℕ) (o n : ℕ) (part : List ℕ) → 0 < length (drop (u + 1) bs) → Found (at + u + 1) (drop (u + 1) bs) o n part → Found at bs o n part
found_later at u bs o n part some f =
    let place : u + 1 + (o - (at + u + 1)) ≡ o - at = omega (arith, f.low) in
    record {
      low = omega (arith, f.low);
      within = omega (arith, f.low, f.within, length-drop (u + 1) bs);
      bytes = sym (ap (λ m. take n (drop m bs)) place) ∙ ap (take n) (sym (drop-drop (o - (at + u + 1)) (u + 1) bs)) ∙ f.bytes;
    }

pub page_at : (at : ℕ) (bs : List ℕ) (i : ℕ) → i < length (cut 12 bs)
    → Found at bs (get_or (index_from at (cut 12 bs)) (2 * i) 0) (get_or (index_from at (cut 12 bs)) (2 * i + 1) 0) (get_or (cut 12 bs) i [])
page_at at bs zero h =
    let some = some_cut bs zero h in
    let u = until 12 bs in
    let n : length (take u bs) ≡ u = length-take-le u bs (until_le 12 bs) in
    let none : at - at ≡ 0 = omega arith in
    subst (λ ps. Found at bs (get_or (index_from at ps) 0 0) (get_or (index_from at ps) 1 0) (get_or ps 0 [])) (sym (cut_step 12 bs some)) (record {
      low = omega arith;
      within = omega (arith, length-take u bs);
      bytes = (λ k. take (n k) (drop (none k) bs));
    })
page_at at bs (suc i) h =
    let some = some_cut bs (suc i) h in
    let u = until 12 bs in
    let n : length (take u bs) ≡ u = length-take-le u bs (until_le 12 bs) in
    let e = cut_step 12 bs some in
    let more : i < length (cut 12 (drop (u + 1) bs)) = omega (arith, ap length e) in
    let twice : 2 * suc i ≡ suc (suc (2 * i)) = omega arith in
    let twice' : 2 * suc i + 1 ≡ suc (suc (2 * i + 1)) = omega arith in
    let f = found_later at u bs _ _ _ (some_cut (drop (u + 1) bs) i more) (page_at (at + u + 1) (drop (u + 1) bs) i more) in
    subst (λ ps. Found at bs (get_or (index_from at ps) (2 * suc i) 0) (get_or (index_from at ps) (2 * suc i + 1) 0) (get_or ps (suc i) [])) (sym e)
    (subst (λ m. Found at bs (get_or (index_from at (take u bs ∷ cut 12 (drop (u + 1) bs))) m 0) (get_or (index_from at (take u bs ∷ cut 12 (drop (u + 1) bs))) (2 * suc i + 1) 0) (get_or (cut 12 (drop (u + 1) bs)) i [])) (sym twice)
    (subst (λ m. Found at bs (get_or (index_from (at + length (take u bs) + 1) (cut 12 (drop (u + 1) bs))) (2 * i) 0) (get_or (index_from at (take u bs ∷ cut 12 (drop (u + 1) bs))) m 0) (get_or (cut 12 (drop (u + 1) bs)) i [])) (sym twice')
    (subst (λ m. Found at bs (get_or (index_from (at + m + 1) (cut 12 (drop (u + 1) bs))) (2 * i) 0) (get_or (index_from (at + m + 1) (cut 12 (drop (u + 1) bs))) (2 * i + 1) 0) (get_or (cut 12 (drop (u + 1) bs)) i [])) (sym n) f)))

-- a number of the index is that of the file
index_is : (file index : List ℕ) (k : ℕ) → Indexed file index → k < length (file_index file) → get_or index k 0 ≡ get_or (file_index file) k 0
index_is file index k e h = sym (get_or-take (length (file_index file)) index k 0 h) ∙ ap (λ xs. get_or xs k 0) e

pub leaf_found : (file index : List ℕ) (leaf : ℕ) → Indexed file index → 1 ≤ leaf → leaf ≤ length (cut 12 file)
    → Found 0 file (get_or index (2 * leaf) 0) (get_or index (2 * leaf + 1) 0) (page_of file leaf)
leaf_found file index zero e l h = absurd (omega arith)
leaf_found file index (suc i) e l h =
    let long = length-index 0 (cut 12 file) in
    let twice : 2 * suc i ≡ suc (suc (2 * i)) = omega arith in
    let twice' : 2 * suc i + 1 ≡ suc (suc (2 * i + 1)) = omega arith in
    let a : get_or (index_from 0 (cut 12 file)) (2 * i) 0 ≡ get_or index (2 * suc i) 0 =
    ap (λ m. get_or (file_index file) m 0) (sym twice) ∙ sym (index_is file index (2 * suc i) e (omega arith)) in
    let b : get_or (index_from 0 (cut 12 file)) (2 * i + 1) 0 ≡ get_or index (2 * suc i + 1) 0 =
    ap (λ m. get_or (file_index file) m 0) (sym twice') ∙ sym (index_is file index (2 * suc i + 1) e (omega arith)) in
    subst (λ o. Found 0 file o (get_or index (2 * suc i + 1) 0) (get_or (cut 12 file) i [])) a
    (subst (λ n. Found 0 file (get_or (index_from 0 (cut 12 file)) (2 * i) 0) n (get_or (cut 12 file) i [])) b (page_at 0 file i (omega arith)))

pub index_long : (file index : List ℕ) → Indexed file index → 2 * length (cut 12 file) + 2 ≤ length index
index_long file index e = omega (arith, ap length e, length-take (length (file_index file)) index, length-index 0 (cut 12 file))

-- the index has the pair of each leaf
pub pair_there : (file index : List ℕ) (leaf : ℕ) → Indexed file index → leaf ≤ length (cut 12 file)
    → take 2 (drop (2 * leaf) index) ≡ pair (record { offset = get_or index (2 * leaf) 0; length = get_or index (2 * leaf + 1) 0 })
pair_there file index leaf e h = pair_read index (2 * leaf) (omega (arith, index_long file index e))

-- a span that stands there finds the page
pub span_finds : (file index : List ℕ) (leaf : ℕ) (s : Span) → Indexed file index → 1 ≤ leaf → leaf ≤ length (cut 12 file) → take 2 (drop (2 * leaf) index) ≡ pair s
    → Found 0 file s.offset s.length (page_of file leaf)
span_finds file index leaf s e l h p =
    let there = pair_there file index leaf e h in
    let o : get_or index (2 * leaf) 0 ≡ s.offset = cc in
    let n : get_or index (2 * leaf + 1) 0 ≡ s.length = cc in
    subst (λ x. Found 0 file x s.length (page_of file leaf)) o
    (subst (λ x. Found 0 file (get_or index (2 * leaf) 0) x (page_of file leaf)) n (leaf_found file index leaf e l h))
