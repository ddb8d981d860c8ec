-- A label stands in its line, and so in the file.
use Rattle.std.proofs.Common.{◌≡◌, ℕ, zero, suc, ◌+◌, ◌-◌, ◌≤◌, eqb, List, length, take, drop, Some, sym, refl, ap, ◌∙◌, subst, arith, length-drop}
use Rattle.std.proofs.lemmas.List.{take_all, take-take, drop-take, drop-drop, length-take-le, length-take}
use Rattle.std.proofs.lemmas.Bool.{cond_both}
use Rattle.pages.specs.Inks.{last_byte, shorter, uncarried, text_of}
use Rattle.dsc.specs.Values.{blanks, trim}
use Rattle.dsc.specs.Comments.{page, kind, label_of, label_len, ordinal_of}
use Rattle.dsc.specs.Loads.{label_place}
use Rattle.dsc.proofs.Grammars.{Reads, kind_reads, paged_is}
use Rattle.dsc.proofs.Labels.{label_len_le}

-- a Page line's label, behind the keyword
kind_label : (lab : List ℕ) (n : ℕ) (t : List ℕ) → kind t ≡ page lab (Some n) → label_of (drop 7 t) ≡ lab
kind_label lab n t e =
    let r = subst (Reads t) e (kind_reads t) in
    ap (λ x. label_of (drop 7 x)) r.1 ∙ sym (paged_is lab (label_of r.0) (ordinal_of r.0) n r.2).0

-- a part of a front is that part of the whole
part_front : (n p j : ℕ) (xs : List ℕ) → n ≤ length (take j xs) - p → take n (drop p (take j xs)) ≡ take n (drop p xs)
part_front zero p j xs h = refl
part_front (suc n) p j xs h =
    let l = length-take j xs in
    let e : j ≡ p + (j - p) = omega arith in
    ap (λ i. take (suc n) (drop p (take i xs))) e ∙ ap (take (suc n)) (drop-take p (j - p) xs) ∙ take-take (suc n) (j - p) (drop p xs) (omega arith)

-- a text is a front of its line
abbrev Front : List ℕ → List ℕ → Type 0
Front l t = (j : ℕ) × (t ≡ take j l)

shorter_front : (l : List ℕ) → Front l (uncarried (shorter l))
shorter_front l =
    let m = length l - 1 in
    let n = length (shorter l) - 1 in
    cond_both (eqb (last_byte (shorter l)) 13) _ _ (Front l)
    (λ _. (n, take-take n m l (omega (arith, length-take m l))))
    (λ _. (m, refl))

text_front : (l : List ℕ) → Front l (text_of l)
text_front l = cond_both (eqb (last_byte l) 10) _ _ (Front l) (λ _. shorter_front l) (λ _. (length l, sym (take_all (length l) l (omega arith))))

-- the label of a line of the file, at its place
pub placed : (file : List ℕ) (e len : ℕ) (lab : List ℕ) (n : ℕ) → kind (text_of (take len (drop e file))) ≡ page lab (Some n) → lab ≡ take (length lab) (drop (e + label_place (text_of (take len (drop e file)))) file)
placed file e len lab n k =
    let line = take len (drop e file) in
    let t = text_of line in
    let v = drop 7 t in
    let p = label_place t in
    let front = text_front line in
    let is : label_of v ≡ lab = kind_label lab n t k in
    let long : length lab ≡ label_len (trim v) = ap length (sym is) ∙ length-take-le (label_len (trim v)) (trim v) (label_len_le (trim v)) in
    let le : label_len (trim v) ≤ length (trim v) = label_len_le (trim v) in
    let within : length (trim v) ≡ length t - p = length-drop (blanks v) v ∙ omega (arith, length-drop 7 t) in
    let at_line : length (drop e file) ≡ length file - e = length-drop e file in
    let fits : length lab ≤ length t - p = omega arith in
    let fits2 : length lab ≤ length (take front.0 line) - p = omega (arith, ap length front.1) in
    let fits3 : length lab ≤ length line - p = omega (arith, length-take front.0 line) in
    sym is
    ∙ ap (λ m. take m (trim v)) (sym long)
    ∙ ap (take (length lab)) (drop-drop (blanks v) 7 t)
    ∙ ap (λ x. take (length lab) (drop p x)) front.1
    ∙ part_front (length lab) p front.0 line fits2
    ∙ part_front (length lab) p len (drop e file) fits3
    ∙ ap (take (length lab)) (drop-drop p e file)
