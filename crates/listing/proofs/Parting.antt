-- Bytes are their parts with a separator between each two.
use Rattle.std.proofs.Common.{◌≡◌, ℕ, false, eqb, ◌⊎◌, List, [], ◌∷◌, ◌++◌, sym, refl, ap, ◌∙◌, subst, inl, inr, ⊎_elim, arith}
use Rattle.std.proofs.lemmas.Bool.{and_from, cases_Bool, cond-true, cond-false, eqb-true, not_from_false}
use Rattle.listing.specs.Pages.{cut, onto}
use Rattle.listing.specs.Shapes.{AllFree, Parted, joined}

free_onto : (s b : ℕ) (ps : List (List ℕ)) → eqb b s ≡ false → AllFree s ps → AllFree s (onto b ps)
free_onto s b [] f a = (and_from _ _ (not_from_false _ f) refl, tt)
free_onto s b (p ∷ ps) f a = (and_from _ _ (not_from_false _ f) a.0, a.1)

pub parts_free : (s : ℕ) (bs : List ℕ) → AllFree s (cut s bs)
parts_free s [] = tt
parts_free s (b ∷ bs) =
    ⊎_elim
    (λ t. subst (AllFree s) (sym (cond-true (eqb b s) _ _ t)) (refl, parts_free s bs))
    (λ f. subst (AllFree s) (sym (cond-false (eqb b s) _ _ f)) (free_onto s b (cut s bs) f (parts_free s bs)))
    (cases_Bool (eqb b s))

-- bytes that are their parts, perhaps with a separator at the end
abbrev Whole : ℕ → List ℕ → List (List ℕ) → Type 0
Whole s bs ps = (bs ≡ joined s ps) ⊎ (bs ≡ joined s ps ++ s ∷ [])

-- a separator in front: an empty part before the others
before-all : (s : ℕ) (bs : List ℕ) (ps : List (List ℕ)) → Whole s bs ps → (ps ≡ [] → bs ≡ []) → Whole s (s ∷ bs) ([] ∷ ps)
before-all s bs [] w e = inr (ap (λ x. s ∷ x) (e refl))
before-all s bs (p ∷ ps) w e = elim w [ inl h ↦ inl (ap (λ x. s ∷ x) h) | inr h ↦ inr (ap (λ x. s ∷ x) h) ]

-- another byte in front: one byte more of the first part
joined_onto : (s b : ℕ) (ps : List (List ℕ)) → (ps ≡ [] → ⊥) → joined s (onto b ps) ≡ b ∷ joined s ps
joined_onto s b [] e = absurd (e refl)
joined_onto s b (p ∷ []) e = refl
joined_onto s b (p ∷ q ∷ ps) e = refl

cut_some : (s b : ℕ) (bs : List ℕ) → cut s (b ∷ bs) ≡ [] → ⊥
cut_some s b bs e =
    ⊎_elim
    (λ t. let h = sym (cond-true (eqb b s) ([] ∷ cut s bs) (onto b (cut s bs)) t) ∙ e in let z : ◌≡◌ {A = ℕ} 0 1 = cc in omega arith)
    (λ f. onto_some b (cut s bs) (sym (cond-false (eqb b s) ([] ∷ cut s bs) (onto b (cut s bs)) f) ∙ e))
    (cases_Bool (eqb b s))
  where
    onto_some : (b : ℕ) (ps : List (List ℕ)) → onto b ps ≡ [] → ⊥
    onto_some b [] e = let z : ◌≡◌ {A = ℕ} 0 1 = cc in omega arith
    onto_some b (p ∷ ps) e = let z : ◌≡◌ {A = ℕ} 0 1 = cc in omega arith

cut_empty : (s : ℕ) (bs : List ℕ) → cut s bs ≡ [] → bs ≡ []
cut_empty s [] e = refl
cut_empty s (b ∷ bs) e = absurd (cut_some s b bs e)

before_first : (s b : ℕ) (bs : List ℕ) → Whole s bs (cut s bs) → Whole s (b ∷ bs) (onto b (cut s bs))
before_first s b [] w = inl refl
before_first s b (c ∷ bs) w =
    let j = joined_onto s b (cut s (c ∷ bs)) (cut_some s c bs) in
    elim w [ inl h ↦ inl (ap (λ x. b ∷ x) h ∙ sym j) | inr h ↦ inr (ap (λ x. b ∷ x) h ∙ ap (λ x. x ++ s ∷ []) (sym j)) ]

whole : (s : ℕ) (bs : List ℕ) → Whole s bs (cut s bs)
whole s [] = inl refl
whole s (b ∷ bs) =
    ⊎_elim
    (λ t. subst (Whole s (b ∷ bs)) (sym (cond-true (eqb b s) _ _ t))
    (subst (λ x. Whole s (x ∷ bs) ([] ∷ cut s bs)) (sym (eqb-true b s t)) (before-all s bs (cut s bs) (whole s bs) (cut_empty s bs))))
    (λ f. subst (Whole s (b ∷ bs)) (sym (cond-false (eqb b s) _ _ f)) (before_first s b bs (whole s bs)))
    (cases_Bool (eqb b s))

pub parted : (s : ℕ) (bs : List ℕ) → Parted s bs
parted s bs = record { whole = whole s bs; apart = parts_free s bs }
