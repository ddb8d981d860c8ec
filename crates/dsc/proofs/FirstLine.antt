-- The first line of a file, and the lines behind it.
use Rattle.std.proofs.Common.{◌≡◌, ℕ, suc, ◌+◌, ◌<◌, min, Bool, true, false, cond, not, eqb, List, [], ◌∷◌, ◌++◌, length, take, drop, sym, refl, ap, ◌∙◌, ⊎_elim, arith, take-append-drop}
use Rattle.std.proofs.lemmas.Bool.{cond-true, cond-false, cases_Bool, not_from_true, not_from_false}
use Rattle.std.proofs.lemmas.List.{append_assoc, length-take}
use Rattle.pages.specs.Pieces.{Piece, fresh, done, unended, after, pieces}
use Rattle.pages.specs.Inks.{Context, plain, lines, line, lines_of}
use Rattle.pages.proofs.Lines.{last_push}
use Rattle.text.specs.Searches.{until}
use Rattle.dsc.specs.Lines.{Begins}

-- the first line's length, its line feed included
abbrev pub line_len : List ℕ → ℕ
line_len bs = min (until 10 bs + 1) (length bs)

until_now : (b : ℕ) (bs : List ℕ) → eqb b 10 ≡ true → until 10 (b ∷ bs) ≡ 0
until_now b bs t = cond-false (not (eqb b 10)) _ _ (not_from_true _ t)

until_later : (b : ℕ) (bs : List ℕ) → eqb b 10 ≡ false → until 10 (b ∷ bs) ≡ 1 + until 10 bs
until_later b bs t = cond-true (not (eqb b 10)) _ _ (not_from_false _ t)

line_now : (b : ℕ) (bs : List ℕ) → eqb b 10 ≡ true → line_len (b ∷ bs) ≡ 1
line_now b bs t = omega (arith, until_now b bs t)

line_later : (b : ℕ) (bs : List ℕ) → eqb b 10 ≡ false → line_len (b ∷ bs) ≡ suc (line_len bs)
line_later b bs t = omega (arith, until_later b bs t)

-- one byte more, by whether the line is whole with it
abbrev one : List ℕ → ℕ → List ℕ → Bool → List (Piece Context)
one xs b bs t =
    cond t (line (xs ++ b ∷ []) ∷ done lines (cond t (fresh plain) (line (xs ++ b ∷ []))) bs) (done lines (cond t (fresh plain) (line (xs ++ b ∷ []))) bs)
    ++ unended (after lines (cond t (fresh plain) (line (xs ++ b ∷ []))) bs).context (after lines (cond t (fresh plain) (line (xs ++ b ∷ []))) bs).bytes

ends_here : (xs : List ℕ) (b : ℕ) (bs : List ℕ) → eqb b 10 ≡ true → pieces lines (line xs) (b ∷ bs) ≡ line (xs ++ b ∷ []) ∷ pieces lines (fresh plain) bs
ends_here xs b bs t = ap (one xs b bs) (ap (λ c. eqb c 10) (last_push xs b) ∙ t)

goes_on : (xs : List ℕ) (b : ℕ) (bs : List ℕ) → eqb b 10 ≡ false → pieces lines (line xs) (b ∷ bs) ≡ pieces lines (line (xs ++ b ∷ [])) bs
goes_on xs b bs t = ap (one xs b bs) (ap (λ c. eqb c 10) (last_push xs b) ∙ t)

one_left : (xs : List ℕ) (b : ℕ) → unended plain (xs ++ b ∷ []) ≡ line (xs ++ b ∷ []) ∷ []
one_left [] b = refl
one_left (x ∷ xs) b = refl

-- the line that xs begins, cut after n bytes
abbrev cut_at : List ℕ → List ℕ → ℕ → List (Piece Context)
cut_at xs bs n = line (xs ++ take n bs) ∷ pieces lines (fresh plain) (drop n bs)

begun : (bs xs : List ℕ) → 0 < length bs → pieces lines (line xs) bs ≡ cut_at xs bs (line_len bs)
begun [] xs l = absurd (omega arith)
begun (b ∷ []) xs l =
    ⊎_elim
    (λ t. ends_here xs b [] t ∙ sym (ap (cut_at xs (b ∷ [])) (line_now b [] t)))
    (λ f. goes_on xs b [] f ∙ one_left xs b ∙ sym (ap (cut_at xs (b ∷ [])) (line_later b [] f)))
    (cases_Bool (eqb b 10))
begun (b ∷ c ∷ cs) xs l =
    ⊎_elim
    (λ t. ends_here xs b (c ∷ cs) t ∙ sym (ap (cut_at xs (b ∷ c ∷ cs)) (line_now b (c ∷ cs) t)))
    (λ f. goes_on xs b (c ∷ cs) f ∙ begun (c ∷ cs) (xs ++ b ∷ []) (omega arith)
    ∙ ap (λ m. line m ∷ pieces lines (fresh plain) (drop (line_len (c ∷ cs)) (c ∷ cs))) (append_assoc xs (b ∷ []) (take (line_len (c ∷ cs)) (c ∷ cs)))
    ∙ sym (ap (cut_at xs (b ∷ c ∷ cs)) (line_later b (c ∷ cs) f)))
    (cases_Bool (eqb b 10))

first_line : (bs : List ℕ) → 0 < length bs → lines_of bs ≡ line (take (line_len bs) bs) ∷ lines_of (drop (line_len bs) bs)
first_line bs l = begun bs [] l

pub begins : (bs : List ℕ) → 0 < length bs → Begins bs (take (line_len bs) bs) (drop (line_len bs) bs)
begins bs l = record {
  some = omega (arith, length-take (line_len bs) bs);
  whole = sym (take-append-drop (line_len bs) bs);
  lines = first_line bs l;
}
