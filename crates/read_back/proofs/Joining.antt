-- The text of a book is the file of a job, and reads back.
use Rattle.std.proofs.Common.{◌≡◌, ℕ, zero, suc, ◌+◌, ◌≤◌, List, ◌++◌, map, length, codes, decimal, sym, refl, ap, ◌∙◌, subst, append_assoc, arith}
use Rattle.std.specs.List.{range_with_len, flat_map}
use Rattle.std.proofs.lemmas.List.FromFn.{length-map-range_with_len}
use Rattle.std.proofs.lemmas.List.{append_cancel_left}
use Rattle.fold.specs.Words.{Letters}
use Rattle.pages.specs.Inks.{Ink}
use Rattle.pages.specs.Meaning.{Lawful, Meaning, size_of}
use Rattle.pages.specs.declared.maps.Size.{Size}
use Rattle.layers.specs.Layering.{layered}
use Rattle.layers.specs.declared.extent.Extent.{Extent}
use Rattle.layers.specs.Lawful.{lawful_layered}
use Rattle.signature.specs.Imposing.{side_parts, side_size, sides_of}
use Rattle.sides.specs.Laws.{Accepted}
use Rattle.sides.specs.Texts.{blocks_of, ending_text, head_text, line, page_line, showpage, side_text}
use Rattle.sides.proofs.Showing.{sides_as_shown}
use Rattle.dsc.specs.Bounds.{longest}
use Rattle.dsc.specs.Printed.{AllInk, Shows, opening, page_text, printed, row, sides}
use Rattle.dsc.proofs.Backs.{reads_back}
use Rattle.books.specs.Books.{book_text}
use Rattle.read_back.specs.Books.{body_of, BooksReadBack}
use Rattle.read_back.proofs.Inking.{body_ink}

opening_is : (w h n : ℕ) (pre : List ℕ) → head_text w h n ++ pre ≡ opening w h n pre
unfolding head_text
opening_is w h n pre =
    let a = line (codes "%!PS-Adobe-3.0") in
    let b = line (codes "%%BoundingBox: 0 0 " ++ (decimal w ++ (codes " " ++ decimal h))) in
    let c = line (codes "%%Pages: " ++ decimal n) in
    let d = line (codes "%%EndComments") in
    append_assoc a (b ++ (c ++ d)) pre ∙ ap (λ z. a ++ z) (append_assoc b (c ++ d) pre ∙ ap (λ z. b ++ z) (append_assoc c d pre))

page_line_is : (s : ℕ) → page_line s ≡ row (page_text s)
unfolding page_line
page_line_is s = refl

module _ (u : Letters) (k : ℕ) (m : Meaning) where
  sides_are : (a n : ℕ) → flat_map (side_text u k m) (range_with_len a n) ≡ sides a (map (body_of u k m) (range_with_len a n))
  sides_are a zero = refl
  sides_are a (suc n) =
      append_assoc (page_line a) (body_of u k m a) (flat_map (side_text u k m) (range_with_len (a + 1) n))
      ∙ ap (λ z. z ++ (body_of u k m a ++ flat_map (side_text u k m) (range_with_len (a + 1) n))) (page_line_is a)
      ∙ ap (λ z. row (page_text a) ++ (body_of u k m a ++ z)) (sides_are (a + 1) n)

  module _ (law : Lawful m) (x : Extent) (acc : Accepted u k m x) where
    body_of_lem : (s : ℕ) → 1 ≤ s → s ≤ x.pages → Ink (body_of u k m s)
    body_of_lem s l h =
        let page = (layered (side_parts u k m) x m).page s in
        let same : body_of u k m s ≡ blocks_of m page ++ showpage = append_cancel_left (page_line s) _ _ (sides_as_shown u k m law x acc s l h).placements in
        subst Ink (sym same) (body_ink m law page ((lawful_layered m law (side_parts u k m) x).placed s l h))

    bodies_ink : (a n : ℕ) → 1 ≤ a → a + n ≤ x.pages + 1 → AllInk (map (body_of u k m) (range_with_len a n))
    bodies_ink a zero l h = tt
    bodies_ink a (suc n) l h = (body_of_lem a l (omega arith), bodies_ink (a + 1) n (omega arith) (omega arith))

    pub reads : x.size ≡ side_size u (size_of m) → length (book_text u k m) ≤ longest
        → Shows (side_size u (size_of m)).width (side_size u (size_of m)).height (m.ink 0) (map (body_of u k m) (range_with_len 1 (sides_of u k m.pages))) (book_text u k m)
    reads size short =
        let n = sides_of u k m.pages in
        let w = (side_size u (size_of m)).width in
        let h = (side_size u (size_of m)).height in
        let bodies = map (body_of u k m) (range_with_len 1 n) in
        let many : length (map (body_of u k m) (range_with_len 1 n)) ≡ n = length-map-range_with_len (body_of u k m) 1 n in
        let same : book_text u k m ≡ printed w h (m.ink 0) bodies =
        ap (λ z. z ++ (flat_map (side_text u k m) (range_with_len 1 n) ++ ending_text)) (opening_is w h n (m.ink 0) ∙ ap (λ z. opening w h z (m.ink 0)) (sym many))
        ∙ ap (λ z. opening w h (length bodies) (m.ink 0) ++ (z ++ ending_text)) (sides_are 1 n) in
        let few = x.paged in
        let all = acc.sides in
        subst (Shows w h (m.ink 0) bodies) (sym same)
        (reads_back w h (m.ink 0) bodies (record {
          wide = subst (λ (z : Size). (1 ≤ z.width) × (z.width ≤ 20000)) size x.wide;
          high = subst (λ (z : Size). (1 ≤ z.height) × (z.height ≤ 20000)) size x.high;
          few = omega arith;
          first = law.formed 0 (omega arith);
          rest = bodies_ink 1 n (omega arith) (omega arith);
          short = subst (λ (z : List ℕ). length z ≤ longest) same short;
        }))

pub books_read_back : BooksReadBack
books_read_back u k m law x acc size short = reads u k m law x acc size short
