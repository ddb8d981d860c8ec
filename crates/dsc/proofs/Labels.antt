-- A label, and what follows it.
use Rattle.std.proofs.Common.{◌≡◌, ℕ, suc, ◌+◌, ◌≤◌, Bool, true, false, cond, not, ◌||◌, eqb, ltb, List, [], ◌∷◌, length, get_or, take, drop, Some, None, sym, refl, ap, ◌∙◌, ⊎_elim, arith, length-drop}
use Rattle.std.specs.List.{position, list_any}
use Rattle.std.proofs.lemmas.Bool.{cond-false, ne_eqb, cond_both, ltb-true, ltb-false, lt-ltb, le-ltb, cases_Bool}
use Rattle.std.proofs.lemmas.List.{length-take, length-take-le}
use Rattle.text.specs.Searches.{until}
use Rattle.dsc.specs.Values.{trim, word_of, past_word}
use Rattle.dsc.specs.Comments.{label_len, paren_len, plain_len}
use Rattle.dsc.proofs.Spans.{until_le, trim_blank, trim_word}

word_le : (t : List ℕ) → length (word_of t) ≤ length t
word_le t = simp (length-take, length-drop) (omega arith)

pub label_len_le : (t : List ℕ) → label_len t ≤ length t
label_len_le t =
    cond_both (eqb (get_or t 0 0) 40) _ _ (λ n. n ≤ length t)
    (λ _. cond_both (ltb (until 41 t) (length t)) _ _ (λ n. n ≤ length t) (λ e. omega (arith, ltb-true _ _ e)) (λ _. omega arith))
    (λ _. cond_both (ltb (until 40 (word_of t)) (length (word_of t)) || ltb (until 41 (word_of t)) (length (word_of t))) _ _ (λ n. n ≤ length t) (λ _. omega arith) (λ _. word_le t))

pub plain_at : (t : List ℕ) → (get_or t 0 0 ≡ 40 → ⊥) → label_len t ≡ plain_len t
plain_at t e = cond-false _ _ _ (ne_eqb _ _ e)

-- the next `)`
paren_by : (b : Bool) (n : ℕ) → cond b (Some n) None ≡ None → cond b (n + 1) 0 ≡ 0
paren_by true n e = let z : ◌≡◌ {A = ℕ} 0 1 = cc in omega arith
paren_by false n e = refl

pub paren_none : (t : List ℕ) → position (λ b. eqb b 41) t ≡ None → paren_len t ≡ 0
paren_none t e = paren_by (ltb (until 41 t) (length t)) (until 41 t) e

paren_at : (b : Bool) (n i : ℕ) → cond b (Some n) None ≡ Some i → cond b (n + 1) 0 ≡ i + 1
paren_at true n i e = let q : n ≡ i = cc in omega arith
paren_at false n i e = let z : ◌≡◌ {A = ℕ} 0 1 = cc in omega arith

pub paren_some : (t : List ℕ) (i : ℕ) → position (λ b. eqb b 41) t ≡ Some i → paren_len t ≡ i + 1
paren_some t i e = paren_at (ltb (until 41 t) (length t)) (until 41 t) i e

-- a word has a byte just where that is found before the word's end
ltb_more : (u n : ℕ) → ltb u n ≡ ltb (1 + u) (suc n)
ltb_more u n = ⊎_elim (λ t. t ∙ sym (lt-ltb (1 + u) (suc n) (omega (arith, ltb-true u n t)))) (λ f. f ∙ sym (le-ltb (1 + u) (suc n) (omega (arith, ltb-false u n f)))) (cases_Bool (ltb u n))

any_step : (b y : Bool) (u n : ℕ) → y ≡ ltb u n → (b || y) ≡ ltb (cond (not b) (1 + u) 0) (suc n)
any_step true y u n e = sym (lt-ltb 0 (suc n) (omega arith))
any_step false y u n e = e ∙ ltb_more u n

any_until : (c : ℕ) (xs : List ℕ) → list_any (λ y. eqb y c) xs ≡ ltb (until c xs) (length xs)
any_until c [] = refl
any_until c (x ∷ xs) = any_step (eqb x c) (list_any (λ y. eqb y c) xs) (until c xs) (length xs) (any_until c xs)

abbrev Has : ℕ → List ℕ → Bool
Has c s = list_any (λ y. eqb y c) (word_of s)

plain_is : (s : List ℕ) → plain_len s ≡ cond (Has 40 s || Has 41 s) 0 (length (word_of s))
plain_is s = sym (ap (λ a. cond (a || Has 41 s) 0 (length (word_of s))) (any_until 40 (word_of s)) ∙ ap (λ b. cond (ltb (until 40 (word_of s)) (length (word_of s)) || b) 0 (length (word_of s))) (any_until 41 (word_of s)))

pub plain_empty : (s : List ℕ) → length (word_of s) ≡ 0 → plain_len s ≡ 0
plain_empty s e = plain_is s ∙ cond_both (Has 40 s || Has 41 s) 0 (length (word_of s)) (λ n. n ≡ 0) (λ _. refl) (λ _. e)

pub plain_left : (s : List ℕ) → Has 40 s ≡ true → plain_len s ≡ 0
plain_left s e = plain_is s ∙ ap (λ a. cond (a || Has 41 s) 0 (length (word_of s))) e

pub plain_right : (s : List ℕ) → Has 40 s ≡ false → Has 41 s ≡ true → plain_len s ≡ 0
plain_right s e f = plain_is s ∙ ap (λ a. cond (a || Has 41 s) 0 (length (word_of s))) e ∙ ap (λ b. cond b 0 (length (word_of s))) f

pub plain_word : (s : List ℕ) → Has 40 s ≡ false → Has 41 s ≡ false → plain_len s ≡ length (word_of s)
plain_word s e f = plain_is s ∙ ap (λ a. cond (a || Has 41 s) 0 (length (word_of s))) e ∙ ap (λ b. cond b 0 (length (word_of s))) f

pub plain_parts : (s : List ℕ) → trim s ≡ s → (word_of s ≡ take (length (word_of s)) s) × (past_word s ≡ drop (length (word_of s)) s)
plain_parts s t =
    let long : length (word_of s) ≡ until 32 (trim s) = length-take-le (until 32 (trim s)) (trim s) (until_le 32 (trim s)) in
    (ap (λ n. take n (trim s)) (sym long) ∙ ap (take (length (word_of s))) t, ap (λ n. drop n (trim s)) (sym long) ∙ ap (drop (length (word_of s))) t)

twice : (b : ℕ) (bs : List ℕ) (t : Bool) → eqb b 32 ≡ t → trim (trim bs) ≡ trim bs → trim (trim (b ∷ bs)) ≡ trim (b ∷ bs)
twice b bs true e h = let q = trim_blank b bs e in ap trim q ∙ h ∙ sym q
twice b bs false e h = ap trim (trim_word b bs e)

pub trim_twice : (bs : List ℕ) → trim (trim bs) ≡ trim bs
trim_twice [] = refl
trim_twice (b ∷ bs) = twice b bs (eqb b 32) refl (trim_twice bs)
