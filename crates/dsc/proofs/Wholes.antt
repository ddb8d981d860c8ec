-- Lines that have their line feed.
use Rattle.std.proofs.Common.{◌≡◌, ℕ, List, [], ◌∷◌, ◌++◌, sym, refl, ap, ◌∙◌}
use Rattle.std.proofs.lemmas.List.{append-nil}
use Rattle.pages.specs.Pieces.{Piece, fresh, after, done, flat, pieces}
use Rattle.pages.specs.Inks.{Context, plain, lines, line, lines_of}
use Rattle.pages.proofs.Cuts.{splits, flat_done, pieces-append}

pub is_plain : (c : Context) → c ≡ plain
is_plain plain = refl

pub is_line : (p : Piece Context) → p ≡ line p.bytes
is_line p = ap (λ (c : Context). record { context = c; bytes = p.bytes }) (is_plain p.context)

-- a line with another behind it, and the bytes behind it
pub record First (bs : List ℕ) (p : Piece Context) (rest : List (Piece Context)) : Type 0 where
  pub back : List ℕ
  pub whole : bs ≡ p.bytes ++ back
  pub closed : after lines (fresh plain) p.bytes ≡ fresh plain
  pub single : done lines (fresh plain) p.bytes ≡ line p.bytes ∷ []
  pub onward : lines_of back ≡ rest

pub first : (bs : List ℕ) (p q : Piece Context) (rest : List (Piece Context)) → lines_of bs ≡ p ∷ q ∷ rest → First bs p (q ∷ rest)
first bs p q rest e =
    let s = splits lines plain bs (p ∷ []) q rest e in
    let here : after lines (fresh plain) s.front ≡ fresh plain = s.here ∙ ap (λ (c : Context). fresh c) (is_plain q.context) in
    let is : s.front ≡ p.bytes =
    sym (flat_done lines (fresh plain) s.front)
    ∙ ap (λ (x : Piece Context). flat (done lines (fresh plain) s.front) ++ x.bytes) here
    ∙ append-nil (flat (done lines (fresh plain) s.front))
    ∙ ap flat s.before
    ∙ append-nil p.bytes in
    record {
      back = s.back;
      whole = s.whole ∙ ap (λ l. l ++ s.back) is;
      closed = ap (after lines (fresh plain)) (sym is) ∙ here;
      single = ap (done lines (fresh plain)) (sym is) ∙ s.before ∙ ap (λ (x : Piece Context). x ∷ []) (is_line p);
      onward = ap (λ (c : Context). pieces lines (fresh c) s.back) (sym (is_plain q.context)) ∙ s.onward;
    }

-- after whole lines the lines begin anew
pub behind : (xs ys : List ℕ) → after lines (fresh plain) xs ≡ fresh plain → lines_of (xs ++ ys) ≡ done lines (fresh plain) xs ++ lines_of ys
behind xs ys c = pieces-append lines (fresh plain) xs ys ∙ ap (λ (p : Piece Context). done lines (fresh plain) xs ++ pieces lines p ys) c

pub flat_closed : (xs : List ℕ) → after lines (fresh plain) xs ≡ fresh plain → flat (done lines (fresh plain) xs) ≡ xs
flat_closed xs c = sym (append-nil (flat (done lines (fresh plain) xs))) ∙ ap (λ (p : Piece Context). flat (done lines (fresh plain) xs) ++ p.bytes) (sym c) ∙ flat_done lines (fresh plain) xs
