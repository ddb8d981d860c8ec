-- Lengths of the ink of a listed page.
use Rattle.std.proofs.Common.{◌≡◌, ℕ, zero, suc, ◌+◌, ◌*◌, ◌≤◌, true, false, cond, List, [], ◌∷◌, ◌++◌, length, codes, decimal, sym, refl, ap, ◌∙◌, append_assoc, arith, length-append, count_by}
use Rattle.std.proofs.lemmas.Fmt.{length-decimal-le}
use Rattle.std.proofs.lemmas.List.Sums.{sum_by-cons}
use Rattle.listing.specs.Inks.{baseline, escape, escaped, ink_of, shown_line, shown_lines, special}
use Rattle.listing.specs.Meaning.{ink_at, page_of}

escape_le : (b : ℕ) → length (escape b) ≤ 2
escape_le b = elim (special b) as (λ t. length (cond t (92 ∷ b ∷ []) (b ∷ [])) ≤ 2) [ true ↦ omega arith | false ↦ omega arith ]

pub escaped_le : (l : List ℕ) → length (escaped l) ≤ 2 * length l
escaped_le [] = omega arith
escaped_le (b ∷ l) = omega (arith, escape_le b, escaped_le l, length-append (escape b) (escaped l))

pub length-shown : (i : ℕ) (l : List ℕ) → length (shown_line i l) ≡ 19 + length (decimal (baseline i)) + length (escaped l)
unfolding shown_line
length-shown i l = simp length-append (omega arith)

pub short_decimal : (n : ℕ) → n ≤ 748 → length (decimal n) ≤ 3
short_decimal n h = length-decimal-le 3 n (omega arith) (omega arith) (omega arith)

-- one byte more for each special one
escape_length : (b : ℕ) → length (escape b) ≡ 1 + cond (special b) 1 0
escape_length b = elim (special b) as (λ t. length (cond t (92 ∷ b ∷ []) (b ∷ [])) ≡ 1 + cond t 1 0) [ true ↦ refl | false ↦ refl ]

pub escaped_count : (l : List ℕ) → length (escaped l) ≡ length l + count_by special l
escaped_count [] = refl
escaped_count (b ∷ l) =
    omega (arith, escape_length b, escaped_count l, length-append (escape b) (escaped l), sum_by-cons (λ x. cond (special x) 1 0) b l)

-- a line is put in three parts
pub line_parts : (i y : ℕ) (l : List ℕ) → y ≡ baseline i
    → ((codes "36 " ++ (decimal y ++ (codes " moveto (" ++ []))) ++ escaped l) ++ (codes ") show" ++ 10 ∷ []) ≡ shown_line i l
unfolding shown_line
line_parts i y l e = simp append_assoc (ap (λ n. codes "36 " ++ (decimal n ++ (codes " moveto (" ++ (escaped l ++ (codes ") show" ++ 10 ∷ []))))) e)

-- one line more
pub shown_next : (xs all : List ℕ) (n k m : ℕ) (ls more : List (List ℕ)) (l : List ℕ) → xs ++ shown_lines n ls ≡ all → ls ≡ l ∷ more → k ≡ n → m ≡ n + 1
    → (xs ++ shown_line k l) ++ shown_lines m more ≡ all
shown_next xs all n k m ls more l h el ek em =
    (λ i. (xs ++ shown_line (ek i) l) ++ shown_lines (em i) more)
    ∙ append_assoc xs (shown_line n l) (shown_lines (n + 1) more) ∙ ap (λ z. xs ++ shown_lines n z) (sym el) ∙ h

-- the ink of a leaf that has a page
pub ink_page : (file : List ℕ) (leaf : ℕ) → 1 ≤ leaf → ink_at file leaf ≡ ink_of (page_of file leaf)
ink_page file zero h = absurd (omega arith)
ink_page file (suc i) h = refl
