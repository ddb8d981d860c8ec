-- Masks and the letters that they hold.
use Rattle.std.proofs.Common.{◌≡◌, ℕ, zero, suc, ◌+◌, ◌*◌, ◌/◌, ◌%◌, ◌^◌, ◌<◌, [], ◌∷◌, ◌++◌, length, sym, refl, ap, ◌∙◌, mul_assoc, pow-suc, add-one, arith, lit<, shl_exact}
use lib.Bits.{bit_or}
use lib.Count.{ones, ones_step, ones-le}
use Rattle.std.proofs.lemmas.Nat.{or_shifted, pow-add}
use Rattle.fold.specs.Words.{Letters, columns_of, count_w, count_n, digit_of, letters, of_digit, rows_of}
use Rattle.fold.specs.declared.letters.Letter.{Letter}
use Rattle.fold.specs.declared.letters.Letter.TheVariants.{W, N}

pub digit_low : (l : Letter) → digit_of l < 2
digit_low W = lit< tt
digit_low N = lit< tt

pub of_digit_of : (l : Letter) (d : ℕ) → d ≡ digit_of l → of_digit d ≡ l
of_digit_of W d e = ap of_digit e
of_digit_of N d e = ap of_digit e

-- ---- counting letters

pub count-all : (w : Letters) → count_n w + count_w w ≡ length w
count-all [] = refl
count-all (W ∷ w) = omega (arith, count-all w)
count-all (N ∷ w) = omega (arith, count-all w)

-- the cells of a side
pub cells : (w : Letters) → rows_of w * columns_of w ≡ 2 ^ length w
cells w = sym (pow-add 2 (count_n w) (count_w w)) ∙ ap (λ n. 2 ^ n) (count-all w)

pub length-letters : (n m : ℕ) → length (letters n m) ≡ n
length-letters zero m = refl
length-letters (suc n) m = ap suc (length-letters n (m / 2))

count_digit : (d : ℕ) (w : Letters) → d < 2 → count_n (of_digit d ∷ w) ≡ d + count_n w
count_digit zero w h = omega arith
count_digit (suc d) w h = omega arith

-- the ones of a mask are the letters N
pub count_ones : (n m : ℕ) → m < 2 ^ n → count_n (letters n m) ≡ ones m
count_ones zero m h = omega (arith, ones-le 0 m h)
count_ones (suc n) m h =
    let half : m / 2 < 2 ^ n = omega (arith, pow-suc 2 n) in
    count_digit (m % 2) (letters n (m / 2)) (omega arith) ∙ ap (λ x. m % 2 + x) (count_ones n (m / 2) half) ∙ sym (ones_step m)

-- ---- one letter more

pub set_digit : (n m d : ℕ) → n < 4 → m < 2 ^ n → d < 2 → bit_or ((d * 2 ^ n) % 256) m ≡ d * 2 ^ n + m
set_digit n m d few h b = ap (λ x. bit_or x m) (shl_exact {a = d} 1 n 8 b (omega arith)) ∙ or_shifted d n m h

pub set_below : (n m d : ℕ) → m < 2 ^ n → d < 2 → d * 2 ^ n + m < 2 ^ (n + 1)
set_below n m zero h b = omega (arith, ap (λ k. 2 ^ k) (add-one n), pow-suc 2 n)
set_below n m (suc d) h b =
    let one : suc d ≡ 1 = omega arith in
    let e : suc d * 2 ^ n ≡ 1 * 2 ^ n = ap (λ x. x * 2 ^ n) one in
    omega (arith, ap (λ k. 2 ^ k) (add-one n), pow-suc 2 n)

letters_suc : (n m d : ℕ) → m < 2 ^ n → d < 2 → letters (suc n) (d * 2 ^ n + m) ≡ letters n m ++ (of_digit d ∷ [])
letters_suc zero m d h b =
    let e : (d * 1 + m) % 2 ≡ d = omega arith in
    ap (λ x. of_digit x ∷ []) e
letters_suc (suc n) m d h b =
    let e : d * 2 ^ suc n ≡ d * 2 ^ n * 2 = ap (λ x. d * x) (pow-suc 2 n) ∙ sym (mul_assoc d (2 ^ n) 2) in
    let p : 2 ^ suc n ≡ 2 ^ n * 2 = pow-suc 2 n in
    let low : (d * 2 ^ suc n + m) % 2 ≡ m % 2 = omega arith in
    let high : (d * 2 ^ suc n + m) / 2 ≡ d * 2 ^ n + m / 2 = omega arith in
    (λ i. of_digit (low i) ∷ letters (suc n) (high i)) ∙ ap (λ w. of_digit (m % 2) ∷ w) (letters_suc n (m / 2) d (omega arith) b)

pub letters_push : (n m d : ℕ) → m < 2 ^ n → d < 2 → letters (n + 1) (d * 2 ^ n + m) ≡ letters n m ++ (of_digit d ∷ [])
letters_push n m d h b = ap (λ k. letters k (d * 2 ^ n + m)) (add-one n) ∙ letters_suc n m d h b
