-- The parts of bytes, one at a time.
use Rattle.std.proofs.Common.{◌≡◌, ℕ, suc, ◌+◌, ◌*◌, ◌<◌, ◌≤◌, true, false, not, eqb, ◌⊎◌, List, [], ◌∷◌, length, take, drop, sym, refl, ap, ◌∙◌, ⊎_elim, inl, inr, one-add, Some, None, Option, MatchOption, slice_range, Bor, arith}
use Rattle.std.proofs.lemmas.List.{drop_all, take_rest}
use Rattle.std.specs.Option.{unwrap_or}
use Rattle.std.proofs.lemmas.Bool.{cases_Bool, cond-true, cond-false, not_from_true, not_from_false}
use Rattle.text.specs.Searches.{until}
use Rattle.listing.specs.Pages.{cut, onto}
use Rattle.listing.specs.Scans.{index_from}

-- the first part and the others, where the first has n bytes
abbrev parted : ℕ → ℕ → List ℕ → List (List ℕ)
parted s n bs = take n bs ∷ cut s (drop (n + 1) bs)

until_now : (s b : ℕ) (bs : List ℕ) → eqb b s ≡ true → until s (b ∷ bs) ≡ 0
until_now s b bs t = cond-false (not (eqb b s)) _ _ (not_from_true _ t)

until_later : (s b : ℕ) (bs : List ℕ) → eqb b s ≡ false → until s (b ∷ bs) ≡ suc (until s bs)
until_later s b bs f = cond-true (not (eqb b s)) _ _ (not_from_false _ f) ∙ one-add (until s bs)

pub cut_step : (s : ℕ) (bs : List ℕ) → 0 < length bs → cut s bs ≡ take (until s bs) bs ∷ cut s (drop (until s bs + 1) bs)
cut_step s [] h = absurd (omega arith)
cut_step s (b ∷ []) h =
    ⊎_elim
    (λ t. cond-true (eqb b s) _ _ t ∙ ap (λ n. parted s n (b ∷ [])) (sym (until_now s b [] t)))
    (λ f. cond-false (eqb b s) _ _ f ∙ ap (λ n. parted s n (b ∷ [])) (sym (until_later s b [] f)))
    (cases_Bool (eqb b s))
cut_step s (b ∷ c ∷ cs) h =
    let u = until s (c ∷ cs) in
    let more : suc u + 1 ≡ suc (u + 1) = omega arith in
    ⊎_elim
    (λ t. cond-true (eqb b s) _ _ t ∙ ap (λ n. parted s n (b ∷ c ∷ cs)) (sym (until_now s b (c ∷ cs) t)))
    (λ f. cond-false (eqb b s) _ _ f ∙ ap (onto b) (cut_step s (c ∷ cs) (omega arith))
    ∙ ap (λ m. take (suc u) (b ∷ c ∷ cs) ∷ cut s (drop m (b ∷ c ∷ cs))) (sym more)
    ∙ ap (λ n. parted s n (b ∷ c ∷ cs)) (sym (until_later s b (c ∷ cs) f)))
    (cases_Bool (eqb b s))

pub length-index : (at : ℕ) (ps : List (List ℕ)) → length (index_from at ps) ≡ 2 * length ps
length-index at [] = refl
length-index at (p ∷ ps) = omega (arith, length-index (at + length p + 1) ps)

-- the first part and those of what follows
pub cut_split : (s : ℕ) (bs first rest : List ℕ) → 0 < length bs → first ≡ take (until s bs) bs → rest ≡ drop (until s bs + 1) bs → cut s bs ≡ first ∷ cut s rest
cut_split s bs first rest some ef er = cut_step s bs some ∙ (λ i. sym ef i ∷ cut s (sym er i))

-- what a test of a slice for emptiness tells
pub some_bytes : (bs : List ℕ) → false ≡ eqb (length bs) 0 → 0 < length bs
some_bytes [] e = absurd (let z : ◌≡◌ {A = ℕ} 0 1 = cc in omega arith)
some_bytes (b ∷ bs) e = omega arith

-- what a lookup of the bytes from a place on tells, with none in place of a failure
pub rest_after : (bs : List ℕ) (n : ℕ) (none : Bor (List ℕ)) (r : Option (Bor (List ℕ))) → none.now ≡ []
    → MatchOption r ((length bs < n) ⊎ (length bs < length bs)) (λ x. (n ≤ length bs) × (length bs ≤ length bs) × (x.now ≡ slice_range bs n (length bs)) × (length x.now + n ≡ length bs))
    → (unwrap_or r none).now ≡ drop n bs
rest_after bs n none None e h = e ∙ sym (drop_all n bs (elim h [ inl l ↦ omega arith | inr l ↦ omega arith ]))
rest_after bs n none (Some x) e h = h.2 ∙ take_rest bs n
