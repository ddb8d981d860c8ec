-- An index that is compared pair by pair.
use Rattle.std.proofs.Common.{◌≡◌, ℕ, ◌+◌, ◌≤◌, List, [], ◌∷◌, ◌++◌, length, get_or, take, drop, sym, ap, ◌∙◌, arith, length-append}
use Rattle.std.proofs.lemmas.List.{drop_at, drop_more, drop-take, take-append-drop, take-take}

pub pair_read : (xs : List ℕ) (k : ℕ) → k + 2 ≤ length xs → take 2 (drop k xs) ≡ get_or xs k 0 ∷ get_or xs (k + 1) 0 ∷ []
pair_read xs k l = ap (take 2) (drop_more xs k 0 (omega arith) ∙ ap (λ ys. get_or xs k 0 ∷ ys) (drop_more xs (k + 1) 0 (omega arith)))

-- one pair more
pub pair_more : (index xs : List ℕ) (k o n : ℕ) → take k index ≡ xs → take 2 (drop k index) ≡ o ∷ n ∷ [] → take (k + 2) index ≡ xs ++ o ∷ n ∷ []
pair_more index xs k o n e f =
    sym (take-append-drop k (take (k + 2) index))
    ∙ (λ i. (take-take k (k + 2) index (omega arith) ∙ e) i ++ (drop-take k 2 index ∙ f) i)

-- a pair of an index that is as it must be
pub pair_within : (index xs tail whole : List ℕ) (k o n : ℕ) → length xs ≡ k → xs ++ o ∷ n ∷ tail ≡ whole → take (length whole) index ≡ whole → take 2 (drop k index) ≡ o ∷ n ∷ []
pair_within index xs tail whole k o n long parts e =
    let l : length whole ≡ k + (2 + length tail) = omega (arith, ap length parts, length-append xs (o ∷ n ∷ tail)) in
    sym (take-take 2 (2 + length tail) (drop k index) (omega arith))
    ∙ ap (take 2) (sym (drop-take k (2 + length tail) index) ∙ ap (λ m. drop k (take m index)) (sym l) ∙ ap (drop k) (e ∙ sym parts) ∙ drop_at xs (o ∷ n ∷ tail) k long)
