-- An order to which nothing is objected, and where it leads.
use Rattle.std.proofs.Common.{◌≡◌, ℕ, ◌*◌, ◌%◌, ◌≤◌, Bool, ◌&&◌, leb, Some, None, Option, sym, refl, ap, ◌∙◌, arith}
use Rattle.std.proofs.lemmas.Bool.{cond-true, le-leb, eq-eqb}
use Rattle.fold.specs.Folding.{page_count}
use Rattle.fold.specs.Signatures.{letters_of}
use Rattle.fold.specs.Words.{Letters, columns_of, rows_of, scheme}
use Rattle.fold.specs.declared.signature.Signature.{Signature}
use Rattle.pages.specs.Limits.{max_side}
use Rattle.pages.specs.Meaning.{Meaning, size_of}
use Rattle.pages.specs.declared.maps.Size.{Size}
use Rattle.layers.specs.declared.extent.Extent.{Extent}
use Rattle.signature.specs.Imposing.{sides_of, word_objects, impose_objects, Imposed}
use Rattle.signature.proofs.Positions.{within, sides_below}

module _ (n k : ℕ) (m : Meaning) (s : Signature) (z : Size) (r c t P : ℕ) (named : Some (letters_of s) ≡ scheme n) (sheets : s.sheets ≡ k)
    (rows : r ≡ rows_of (letters_of s)) (columns : c ≡ columns_of (letters_of s)) (size : z ≡ size_of m) (pages : P ≡ m.pages)
    (takes : t ≡ page_count (letters_of s) s.sheets) where
  abbrev u : Letters
  u = letters_of s

  width_is : c * z.width ≡ columns_of u * m.width
  width_is = ap (λ (x : ℕ). x * z.width) columns ∙ ap (λ (x : Size). columns_of u * x.width) size

  height_is : r * z.height ≡ rows_of u * m.height
  height_is = ap (λ (x : ℕ). x * z.height) rows ∙ ap (λ (x : Size). rows_of u * x.height) size

  pub unopposed : P % t ≡ 0 → c * z.width ≤ max_side → r * z.height ≤ max_side → impose_objects n k m ≡ None
  unopposed e a b =
      let h = s.thickness in
      let even : m.pages % page_count u k ≡ 0 = ap (λ (x : ℕ). x % page_count u k) (sym pages) ∙ ap (λ (x : ℕ). P % x) (ap (page_count u) (sym sheets) ∙ sym takes) ∙ e in
      let w = le-leb (columns_of u * m.width) max_side (omega (arith, width_is)) in
      let v = le-leb (rows_of u * m.height) max_side (omega (arith, height_is)) in
      ap (λ (o : Option Letters). word_objects o k m) (sym named)
      ∙ cond-true _ _ _ (within 16 k (omega arith) (omega arith))
      ∙ cond-true _ _ _ (eq-eqb (m.pages % page_count u k) 0 even)
      ∙ cond-true _ _ _ (ap (λ (y : Bool). y && leb (rows_of u * m.height) max_side) w ∙ v)

  pub imposed : (x : Extent) → x.size ≡ record { width = c * z.width; height = r * z.height } → x.pages ≡ sides_of u s.sheets P → Imposed n k m (Some s) x
  imposed x a b =
      let sides = b ∙ ap (sides_of u s.sheets) pages in
      record {
        signature = s;
        made = refl;
        word = sym named;
        sheets = sheets;
        sides = sides;
        size = a ∙ (λ i. record { width = width_is i; height = height_is i });
        below = sides_below s m x.pages sides;
      }
