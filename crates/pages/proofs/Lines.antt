-- Lines, and inks as lines.
use Rattle.std.proofs.Common.{◌≡◌, ℕ, ◌+◌, ◌-◌, ◌≤◌, Bool, true, false, cond, not, ◌&&◌, eqb, ◌⊎◌, List, [], ◌∷◌, ◌++◌, length, get_or, take, sym, refl, ap, ◌∙◌, subst, inl, inr, arith, length-append}
use Rattle.std.proofs.lemmas.List.{append_assoc, length_push, get_or_push, get_or-append_right, take_at}
use Rattle.std.proofs.lemmas.Bool.{and_parts, and_from, not-true, eqb-true}
use Rattle.pages.specs.Pieces.{Piece, fresh, after, done, unended, AllCalm}
use Rattle.pages.specs.Inks.{last_byte, shorter, uncarried, text_of, forbidden, Context, plain, lines, Ink, unbroken, line, ReadsLine, ReadsLast, fed, AllAllowed, Allowed, InksAreLines}
use Rattle.pages.proofs.Cuts.{Short, done_short, after_short, done_one_piece, after_one_piece, pieces_one_piece, inked-append, inked_none}

pub last_push : (bs : List ℕ) (b : ℕ) → last_byte (bs ++ b ∷ []) ≡ b
last_push bs b = ap (λ (n : ℕ). get_or (bs ++ b ∷ []) (n - 1) 0) (length_push bs b) ∙ get_or_push bs b 0 (length bs + 1 - 1) (omega arith)

pub shorter_push : (bs : List ℕ) (b : ℕ) → shorter (bs ++ b ∷ []) ≡ bs
shorter_push bs b = ap (λ (n : ℕ). take (n - 1) (bs ++ b ∷ [])) (length_push bs b) ∙ take_at bs (b ∷ []) (length bs + 1 - 1) (omega arith)

-- the text of a line with its line feed
pub text_line : (l : List ℕ) → text_of (l ++ 10 ∷ []) ≡ uncarried l
text_line l =
    ap (λ (n : ℕ). cond (eqb n 10) (uncarried (shorter (l ++ 10 ∷ []))) (l ++ 10 ∷ [])) (last_push l 10)
    ∙ ap uncarried (shorter_push l 10)

pub line_short : (acc l : List ℕ) → unbroken l ≡ true → Short lines plain acc l
line_short acc [] h = tt
line_short acc (b ∷ l) h =
    (ap (λ (n : ℕ). eqb n 10) (last_push acc b) ∙ not-true _ (and_parts _ _ h).0, line_short (acc ++ b ∷ []) l (and_parts _ _ h).1)

line_whole : (l : List ℕ) → lines.whole (line (l ++ 10 ∷ [])) ≡ true
line_whole l = ap (λ (n : ℕ). eqb n 10) (last_push l 10)

pub reads_line : ReadsLine
reads_line l rest h = pieces_one_piece lines plain l 10 (line_short [] l h) (line_whole l) rest

pub reads_last : ReadsLast
reads_last b bs h =
    let s = line_short [] (b ∷ bs) h in
    ap (λ (ps : List (Piece Context)). ps ++ unended (after lines (fresh plain) (b ∷ bs)).context (after lines (fresh plain) (b ∷ bs)).bytes) (done_short lines plain [] (b ∷ bs) s)
    ∙ ap (λ (p : Piece Context). unended p.context p.bytes) (after_short lines plain [] (b ∷ bs) s)

pub line_ink : (l : List ℕ) → unbroken l ≡ true → forbidden (uncarried l) ≡ false → Ink (l ++ 10 ∷ [])
line_ink l h f =
    let s = line_short [] l h in
    record {
      closed = after_one_piece lines plain l 10 s (line_whole l);
      quiet = subst (AllCalm lines) (sym (done_one_piece lines plain l 10 s (line_whole l))) (ap (λ (t : List ℕ). not (forbidden t)) (text_line l) ∙ ap not f, tt);
    }

pub fed_ink : (ls : List (List ℕ)) → AllAllowed ls → Ink (fed ls)
fed_ink [] a = inked_none lines
fed_ink (l ∷ ls) a = subst Ink (append_assoc l (10 ∷ []) (fed ls)) (inked-append lines (l ++ 10 ∷ []) (fed ls) (line_ink l a.0.0 a.0.1) (fed_ink ls a.1))

-- an ink, from a line that is begun with the bytes acc
unbroken_push : (bs : List ℕ) (b : ℕ) → unbroken bs ≡ true → eqb b 10 ≡ false → unbroken (bs ++ b ∷ []) ≡ true
unbroken_push [] b h e = ap (λ (t : Bool). not t && true) e
unbroken_push (x ∷ bs) b h e = and_from _ _ (and_parts _ _ h).0 (unbroken_push bs b (and_parts _ _ h).1 e)

abbrev Begun : List ℕ → List ℕ → Type 0
Begun acc bs = after lines (line acc) bs ≡ fresh plain → AllCalm lines (done lines (line acc) bs) → Allowed (acc ++ bs)

abbrev after_if : List ℕ → ℕ → List ℕ → Bool → Piece Context
after_if acc b bs t = after lines (cond t (fresh plain) (line (acc ++ b ∷ []))) bs

abbrev done_if : List ℕ → ℕ → List ℕ → Bool → List (Piece Context)
done_if acc b bs t = cond t (line (acc ++ b ∷ []) ∷ done lines (cond t (fresh plain) (line (acc ++ b ∷ []))) bs) (done lines (cond t (fresh plain) (line (acc ++ b ∷ []))) bs)

-- one byte more: a line feed ends the line
one_more : (acc : List ℕ) (b : ℕ) (bs : List ℕ) (t : Bool) → unbroken acc ≡ true → eqb b 10 ≡ t →
    Begun [] bs → (unbroken (acc ++ b ∷ []) ≡ true → Begun (acc ++ b ∷ []) bs) →
    after_if acc b bs t ≡ fresh plain → AllCalm lines (done_if acc b bs t) → Allowed (acc ++ b ∷ bs)
one_more acc b bs true u e new more c q =
    let r = new c q.1 in
    let is : b ≡ 10 = eqb-true b 10 e in
    let calm : not (forbidden (uncarried acc)) ≡ true = sym (ap (λ (l : List ℕ). not (forbidden l)) (ap (λ (x : ℕ). text_of (acc ++ x ∷ [])) is ∙ text_line acc)) ∙ q.0 in
    record { parts = acc ∷ r.parts; whole = ap (λ (x : ℕ). acc ++ x ∷ bs) is ∙ ap (λ (l : List ℕ). acc ++ 10 ∷ l) r.whole; each = ((u, not-true _ calm), r.each) }
one_more acc b bs false u e new more c q =
    let r = more (unbroken_push acc b u e) c q in
    record { parts = r.parts; whole = sym (append_assoc acc (b ∷ []) bs) ∙ r.whole; each = r.each }

pub begun : (bs acc : List ℕ) → unbroken acc ≡ true → Begun acc bs
begun [] acc u c q = record { parts = []; whole = ap (λ (p : Piece Context). p.bytes ++ []) c; each = tt }
begun (b ∷ bs) acc u c q =
    let w : eqb (last_byte (acc ++ b ∷ [])) 10 ≡ eqb b 10 = ap (λ (n : ℕ). eqb n 10) (last_push acc b) in
    one_more acc b bs (eqb b 10) u refl (begun bs [] refl) (begun bs (acc ++ b ∷ []))
    (ap (after_if acc b bs) (sym w) ∙ c) (subst (λ (t : Bool). AllCalm lines (done_if acc b bs t)) w q)

last-append : (xs ys : List ℕ) → 1 ≤ length ys → last_byte (xs ++ ys) ≡ last_byte ys
last-append xs ys h =
    ap (λ (n : ℕ). get_or (xs ++ ys) (n - 1) 0) (length-append xs ys)
    ∙ get_or-append_right xs ys (length xs) (length xs + length ys - 1) 0 refl (omega arith)
    ∙ ap (λ (n : ℕ). get_or ys n 0) (omega arith)

fed_last : (ls : List (List ℕ)) (l : List ℕ) → last_byte (fed (l ∷ ls)) ≡ 10
fed_last [] l = last_push l 10
fed_last (m ∷ ls) l =
    ap last_byte (sym (append_assoc l (10 ∷ []) (fed (m ∷ ls))))
    ∙ last-append (l ++ 10 ∷ []) (fed (m ∷ ls)) (omega (arith, length-append m (10 ∷ fed ls)))
    ∙ fed_last ls m

ends : (ls : List (List ℕ)) → (fed ls ≡ []) ⊎ (last_byte (fed ls) ≡ 10)
ends [] = inl refl
ends (l ∷ ls) = inr (fed_last ls l)

pub inks_are_lines : InksAreLines
inks_are_lines = record {
  ink_lines = λ bs i. begun bs [] refl i.closed i.quiet;
  lines_ink = λ bs a. subst Ink (sym a.whole) (fed_ink a.parts a.each);
  ends = λ bs i. let a = begun bs [] refl i.closed i.quiet in subst (λ (l : List ℕ). (l ≡ []) ⊎ (last_byte l ≡ 10)) (sym a.whole) (ends a.parts);
}
