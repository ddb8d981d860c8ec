-- The pieces and the length of what stands before the ink.
use Rattle.std.proofs.Common.{◌≡◌, ℕ, ◌+◌, ◌*◌, ◌^◌, ◌<◌, ◌≤◌, List, [], ◌++◌, length, ℤ, codes, decimal, ap, ◌∙◌, append_assoc, arith, length-append, w64, SFits, to_z, of_z}
use Rattle.std.proofs.lemmas.Fmt.{length_signed_le}
use Rattle.std.proofs.lemmas.Int.{to_z-of_z}
use Rattle.std.specs.Fmt.{signed_decimal}
use Rattle.pages.specs.declared.maps.Map.{Map}
use Rattle.text.proofs.Decimal.{short}
use Rattle.sides.specs.Texts.{block, head_text, line, page_line, placing, quotient}

-- a number that is passed on
passed : {Y : Type 0} (f : ℤ → Y) (z : ℤ) → SFits w64 z → f (to_z w64 (of_z w64 z)) ≡ f z
passed f z h = ap f (to_z-of_z w64 z h)

-- the pieces in a row; x and y are the vector as it is passed on
abbrev pub flat : Map → ℤ → ℤ → List ℕ
flat t x y =
    line (codes "save") ++ (line (codes "/showpage { } def")
    ++ (signed_decimal x ++ (codes " " ++ (decimal t.den ++ (codes " div " ++ (signed_decimal y ++ (codes " " ++ (decimal t.den ++ (line (codes " div translate")
    ++ (decimal (90 * t.turn) ++ (line (codes " rotate") ++ (decimal t.num ++ (codes " " ++ (decimal t.den ++ (line (codes " div dup scale") ++ [])))))))))))))))

flat_placing : (t : Map) → flat t t.x t.y ≡ placing t
unfolding placing quotient
flat_placing t = simp append_assoc

pub placing_flat : (t : Map) → SFits w64 t.x → SFits w64 t.y → flat t (to_z w64 (of_z w64 t.x)) (to_z w64 (of_z w64 t.y)) ≡ placing t
placing_flat t fx fy = passed (λ x. flat t x (to_z w64 (of_z w64 t.y))) t.x fx ∙ passed (λ y. flat t t.x y) t.y fy ∙ flat_placing t

length-flat : (t : Map) → length (flat t t.x t.y) ≡ length (signed_decimal t.x) + length (signed_decimal t.y) + 3 * length (decimal t.den) + length (decimal (90 * t.turn)) + length (decimal t.num) + 69
length-flat t = simp length-append (omega arith)

signed_short : (z : ℤ) → SFits w64 z → length (signed_decimal z) ≤ 21
signed_short z f = length_signed_le 20 z (omega (arith, f.sfits)) f.sfits

pub placing_short : (t : Map) → SFits w64 t.x → SFits w64 t.y → t.den < 2 ^ 64 → 90 * t.turn < 2 ^ 64 → t.num < 2 ^ 64 → length (placing t) ≤ 256
placing_short t fx fy d q n =
    omega (arith, ap length (flat_placing t), length-flat t, signed_short t.x fx, signed_short t.y fy, short t.den d, short (90 * t.turn) q, short t.num n)

pub length-block : (t : Map) (ink : List ℕ) → length (block t ink) ≡ length (placing t) + length ink + 8
unfolding block
length-block t ink = simp length-append (omega arith)

length-page-line : (s : ℕ) → length (page_line s) ≡ 10 + 2 * length (decimal s)
unfolding page_line
length-page-line s = simp length-append (omega arith)

pub page_line_short : (s : ℕ) → s < 2 ^ 64 → length (page_line s) ≤ 50
page_line_short s h = omega (arith, length-page-line s, short s h)

length-head : (w h n : ℕ) → length (head_text w h n) ≡ 60 + length (decimal w) + length (decimal h) + length (decimal n)
unfolding head_text
length-head w h n = simp length-append (omega arith)

pub head_short : (w h n : ℕ) → w < 2 ^ 64 → h < 2 ^ 64 → n < 2 ^ 64 → length (head_text w h n) ≤ 120
head_short w h n a b c = omega (arith, length-head w h n, short w a, short h b, short n c)
