-- The steps of loops over bytes.
use Rattle.std.proofs.Common.{◌≡◌, ℕ, ◌+◌, ◌-◌, ◌*◌, ◌<◌, ◌≤◌, true, false, not, eqb, List, [], ◌∷◌, length, get_or, take, drop, Some, None, sym, refl, ap, ◌∙◌, one-add, arith}
use Rattle.std.proofs.lemmas.Bool.{eq-eqb, ne_eqb, lt-ltb, le-leb, lt-leb, not_from_true, not_from_false, cond-true, cond-false, and_from, and_left, and_right}
use Rattle.std.proofs.lemmas.List.Sums.{prefix_len-drop_yes, prefix_len-drop_no, prefix_len-drop_all, prefix_len-le-length}
use Rattle.std.proofs.lemmas.List.{at_drop_more, at_drop_all, take_all}
use Rattle.text.specs.Searches.{until}
use Rattle.dsc.specs.Values.{blanks, trim, digit, digits, number_of}

module _ (xs : List ℕ) (i : ℕ) where
  pub until_here : (c : ℕ) → i < length xs → get_or xs i 0 ≡ c → until c (drop i xs) ≡ 0
  until_here c l e = prefix_len-drop_no (λ b. not (eqb b c)) xs i 0 l (not_from_true _ (eq-eqb _ _ e))

  pub until_more : (c : ℕ) → i < length xs → (get_or xs i 0 ≡ c → ⊥) → until c (drop i xs) ≡ 1 + until c (drop (i + 1) xs)
  until_more c l e = prefix_len-drop_yes (λ b. not (eqb b c)) xs i 0 l (not_from_false _ (ne_eqb _ _ e))

  pub until_all : (c : ℕ) → length xs ≤ i → until c (drop i xs) ≡ 0
  until_all c l = prefix_len-drop_all (λ b. not (eqb b c)) xs i l

  pub digits_more : (a : ℕ) → i < length xs → 48 ≤ get_or xs i 0 → get_or xs i 0 ≤ 57 → digits a (drop i xs) ≡ digits (a * 10 + (get_or xs i 0 - 48)) (drop (i + 1) xs)
  digits_more a l lo hi =
      let d : digit (get_or xs i 0) ≡ true = and_from _ _ (le-leb _ _ lo) (le-leb _ _ hi) in
      at_drop_more (digits a) xs i 0 l ∙ cond-true (digit (get_or xs i 0)) _ _ d

  pub digits_low : (a : ℕ) → i < length xs → get_or xs i 0 < 48 → digits a (drop i xs) ≡ None
  digits_low a l lo =
      let d : digit (get_or xs i 0) ≡ false = and_left _ _ (lt-leb _ _ lo) in
      at_drop_more (digits a) xs i 0 l ∙ cond-false (digit (get_or xs i 0)) _ _ d

  pub digits_high : (a : ℕ) → i < length xs → 57 < get_or xs i 0 → digits a (drop i xs) ≡ None
  digits_high a l hi =
      let d : digit (get_or xs i 0) ≡ false = and_right _ _ (lt-leb _ _ hi) in
      at_drop_more (digits a) xs i 0 l ∙ cond-false (digit (get_or xs i 0)) _ _ d

  pub digits_all : (a : ℕ) → length xs ≤ i → digits a (drop i xs) ≡ Some a
  digits_all a l = at_drop_all (digits a) xs i l

pub until_le : (c : ℕ) (xs : List ℕ) → until c xs ≤ length xs
until_le c xs = prefix_len-le-length (λ b. not (eqb b c)) xs

pub number_digits : (w : List ℕ) → 0 < length w → length w ≤ 5 → number_of w ≡ digits 0 w
number_digits w lo hi = cond-true _ _ _ (and_from _ _ (lt-ltb _ _ lo) (le-leb _ _ hi))

pub trim_blank : (b : ℕ) (bs : List ℕ) → eqb b 32 ≡ true → trim (b ∷ bs) ≡ trim bs
trim_blank b bs t = ap (λ n. drop n (b ∷ bs)) (cond-true (eqb b 32) (1 + blanks bs) 0 t ∙ one-add (blanks bs))

pub trim_word : (b : ℕ) (bs : List ℕ) → eqb b 32 ≡ false → trim (b ∷ bs) ≡ b ∷ bs
trim_word b bs f = ap (λ n. drop n (b ∷ bs)) (cond-false (eqb b 32) (1 + blanks bs) 0 f)

pub trim_more : (xs : List ℕ) → 0 < length xs → get_or xs 0 0 ≡ 32 → trim (take (length xs - 1) (drop 1 xs)) ≡ trim xs
trim_more [] l e = absurd (omega arith)
trim_more (b ∷ bs) l e = ap trim (take_all (length (b ∷ bs) - 1) bs (omega arith)) ∙ sym (trim_blank b bs (eq-eqb _ _ e))

pub trim_stop : (xs : List ℕ) → (get_or xs 0 0 ≡ 32 → ⊥) → trim xs ≡ xs
trim_stop [] e = refl
trim_stop (b ∷ bs) e = trim_word b bs (ne_eqb _ _ e)
