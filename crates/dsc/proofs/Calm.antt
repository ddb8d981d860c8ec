-- Which kinds an ink's line may have.
use Rattle.std.proofs.Common.{◌≡◌, ℕ, ◌≤◌, Bool, true, false, not, ◌||◌, eqb, List, [], ◌∷◌, take, drop, Some, None, codes, Option, sym, refl, ap, ◌∙◌, ⊎_elim, arith}
use Rattle.std.specs.Str.{bytes_eq}
use Rattle.std.proofs.lemmas.Slice.Eq.{bytes_eq-Decides}
use Rattle.std.proofs.lemmas.List.{take-take}
use Rattle.std.proofs.lemmas.Bool.{cond_both, cases_Bool}
use Rattle.pages.specs.Inks.{forbidden}
use Rattle.dsc.specs.Comments.{Kind, end_comments, trailer, pages, box, page, other, kind, keyword_of, strip, else_pages, else_box, else_page, paged, label_of, ordinal_of}

-- the kinds that an ink's line may have
abbrev pub calm : Kind → Bool
calm end_comments = true
calm trailer = false
calm (pages v) = true
calm (box v) = true
calm (page l o) = false
calm other = true

same_eq : (xs ys : List ℕ) → bytes_eq xs ys ≡ true → xs ≡ ys
same_eq xs ys e = (bytes_eq-Decides xs ys).0 e

paged_loud : (l : List ℕ) (o : Option ℕ) → calm (paged l o) ≡ false
paged_loud l None = refl
paged_loud l (Some n) = refl

module _ (r : List ℕ) where
  abbrev Calm : Kind → Type 0
  Calm k = calm k ≡ not (bytes_eq (take 5 r) (codes "Page:") || bytes_eq r (codes "Trailer"))

  -- a text that begins with k, which is longer than `Page:` and begins otherwise
  long : (n : ℕ) (k : List ℕ) → 5 ≤ n → bytes_eq (take n r) k ≡ true → bytes_eq (take 5 k) (codes "Page:") ≡ false → bytes_eq (take 5 r) (codes "Page:") ≡ false
  long n k h e f = ap (λ l. bytes_eq l (codes "Page:")) (sym (take-take 5 n r h) ∙ ap (take 5) (same_eq (take n r) k e)) ∙ f

  keyword_calm : Calm (keyword_of r)
  keyword_calm =
      cond_both (bytes_eq r (codes "EndComments")) _ _ Calm
      (λ e. let z = same_eq r _ e in rw z)
      (λ _. cond_both (bytes_eq r (codes "Trailer")) _ _ Calm
      (λ e. let z = same_eq r _ e in rw z)
      (λ t. cond_both (bytes_eq (take 6 r) (codes "Pages:")) _ _ (λ o. Calm (else_pages o (else_box (strip (codes "BoundingBox:") r) (else_page (strip (codes "Page:") r)))))
      (λ e. rw (long 6 (codes "Pages:") (omega arith) e refl, t))
      (λ _. cond_both (bytes_eq (take 12 r) (codes "BoundingBox:")) _ _ (λ o. Calm (else_box o (else_page (strip (codes "Page:") r))))
      (λ e. rw (long 12 (codes "BoundingBox:") (omega arith) e refl, t))
      (λ _. cond_both (bytes_eq (take 5 r) (codes "Page:")) _ _ (λ o. Calm (else_page o))
      (λ e. rw e (paged_loud (label_of (drop 5 r)) (ordinal_of (drop 5 r))))
      (λ e. rw (e, t))))))

pub kind_calm : (t : List ℕ) → calm (kind t) ≡ not (forbidden t)
kind_calm [] = refl
kind_calm (a ∷ []) = ⊎_elim (λ (e : eqb a 37 ≡ true). rw e) (λ (e : eqb a 37 ≡ false). rw e) (cases_Bool (eqb a 37))
kind_calm (a ∷ b ∷ r) =
    ⊎_elim
    (λ (e : eqb a 37 ≡ true). ⊎_elim (λ (g : eqb b 37 ≡ true). rw (e, g) (keyword_calm r)) (λ (g : eqb b 37 ≡ false). rw (e, g)) (cases_Bool (eqb b 37)))
    (λ (e : eqb a 37 ≡ false). rw e)
    (cases_Bool (eqb a 37))
