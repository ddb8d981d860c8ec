-- A printed job, read back.
use Rattle.std.proofs.Common.{◌≡◌, ℕ, ◌+◌, ◌<◌, ◌≤◌, List, [], ◌∷◌, ◌++◌, length, get_or, Some, Ok, codes, decimal, sym, refl, ap, ◌∙◌, subst, arith}
use Rattle.std.proofs.lemmas.List.{append_assoc}
use Rattle.pages.specs.declared.maps.Size.{Size}
use Rattle.pages.specs.Pieces.{Piece, fresh, after, done}
use Rattle.pages.specs.Inks.{Context, plain, lines, line, lines_of, last_byte}
use Rattle.pages.proofs.Cuts.{after-append, done-append}
use Rattle.dsc.specs.Bounds.{mark}
use Rattle.dsc.specs.Comments.{Kind, end_comments, trailer, pages, box, page, other}
use Rattle.dsc.specs.Scans.{Read, scanned, meant, meant_by, kind_of}
use Rattle.dsc.specs.Readers.{ink_of}
use Rattle.dsc.specs.Documents.{Line, Heads, AllHead, pages_or, size_or, first_pages, first_size, Head, Leaf, bytes_of, inks_of, index_of, Numbered, Ends, Document}
use Rattle.dsc.specs.Printed.{row, box_text, pages_text, page_text, sides, ending, printed, AllInk, Job, Shows, ReadsBack}
use Rattle.dsc.proofs.Wholes.{behind}
use Rattle.dsc.proofs.Words.{numeral, page_kind, pages_kind, box_kind, unbroken_digs, unbroken_only, last_digs, row_line}
use Rattle.dsc.proofs.Rebuilt.{whole}
use Rattle.dsc.proofs.Indexed.{inks}

-- the leaves that the sides from s on are
abbrev leaves_from : ℕ → List (List ℕ) → List Leaf
leaves_from s [] = []
leaves_from s (b ∷ bs) = record { opener = row (page_text s); ink = b } ∷ leaves_from (s + 1) bs

sides_bytes : (s : ℕ) (bs : List (List ℕ)) → bytes_of (leaves_from s bs) ≡ sides s bs
sides_bytes s [] = refl
sides_bytes s (b ∷ bs) = ap (λ x. row (page_text s) ++ (b ++ x)) (sides_bytes (s + 1) bs)

sides_inks : (s : ℕ) (bs : List (List ℕ)) → inks_of (leaves_from s bs) ≡ bs
sides_inks s [] = refl
sides_inks s (b ∷ bs) = ap (λ x. b ∷ x) (sides_inks (s + 1) bs)

sides_count : (s : ℕ) (bs : List (List ℕ)) → length (leaves_from s bs) ≡ length bs
sides_count s [] = refl
sides_count s (b ∷ bs) = let e = sides_count (s + 1) bs in omega arith

page_line : (s : ℕ) → s < 100000 → Line (page (decimal s) (Some s)) (row (page_text s))
page_line s small =
    let d = (numeral s small).digits in
    row_line (page_text s) _ (unbroken_digs (decimal s) (32 ∷ decimal s) d (unbroken_only (decimal s) d)) (last_page s small) (page_kind s small)
  where
    last_page : (s : ℕ) → s < 100000 → last_byte (page_text s) ≡ 13 → ⊥
    last_page s small e = last_digs (codes "%%Page: " ++ (decimal s ++ 32 ∷ [])) (decimal s) (numeral s small).digits (numeral s small).some (ap last_byte (ap (λ x. codes "%%Page: " ++ x) (append_assoc (decimal s) (32 ∷ []) (decimal s))) ∙ e)

numbered : (s : ℕ) (bs : List (List ℕ)) → s + length bs ≤ 4097 → AllInk bs → Numbered s (leaves_from s bs)
numbered s [] few all = tt
numbered s (b ∷ bs) few all = ((decimal s, page_line s (omega arith)), all.0, numbered (s + 1) bs (omega arith) all.1)

-- a line in front of whole lines
more_done : (k : Kind) (l xs : List ℕ) → Line k l → done lines (fresh plain) (l ++ xs) ≡ line l ∷ done lines (fresh plain) xs
more_done k l xs h = done-append lines (fresh plain) l xs ∙ ap (λ (q : Piece Context). done lines (fresh plain) l ++ done lines q xs) h.closed ∙ ap (λ (ps : List (Piece Context)). ps ++ done lines (fresh plain) xs) h.single

more_closed : (k : Kind) (l xs : List ℕ) → Line k l → after lines (fresh plain) xs ≡ fresh plain → after lines (fresh plain) (l ++ xs) ≡ fresh plain
more_closed k l xs h c = after-append lines (fresh plain) l xs ∙ ap (λ (q : Piece Context). after lines q xs) h.closed ∙ c

mark_line : Line other (row mark)
mark_line = row_line mark other refl (λ e. omega (arith, e)) refl

end_line : Line end_comments (row (codes "%%EndComments"))
end_line = row_line (codes "%%EndComments") end_comments refl (λ e. omega (arith, e)) refl

trailer_line : Line trailer (row (codes "%%Trailer"))
trailer_line = row_line (codes "%%Trailer") trailer refl (λ e. omega (arith, e)) refl

ends : Ends (row (codes "%%Trailer")) (row (codes "%%EOF"))
ends =
    let t = row (codes "%%Trailer") in
    let e = row (codes "%%EOF") in
    record { first = behind t e trailer_line.closed ∙ ap (λ (ps : List (Piece Context)). ps ++ lines_of e) trailer_line.single; means = trailer_line.means }

module _ (w h : ℕ) (pre : List ℕ) (bodies : List (List ℕ)) (job : Job w h pre bodies) where
  abbrev n : ℕ
  n = length bodies

  abbrev z : Size
  z = record { width = w; height = h }

  abbrev b_row : List ℕ
  b_row = row (box_text w h)

  abbrev p_row : List ℕ
  p_row = row (pages_text n)

  abbrev head : List ℕ
  head = row mark ++ (b_row ++ p_row)

  abbrev closing : List ℕ
  closing = row (codes "%%EndComments")

  small_w : w < 100000
  small_w = omega (arith, job.wide.1)

  small_h : h < 100000
  small_h = omega (arith, job.high.1)

  small_n : n < 100000
  small_n = omega (arith, job.few)

  last_box : last_byte (box_text w h) ≡ 13 → ⊥
  last_box e = last_digs (codes "%%BoundingBox: 0 0 " ++ (decimal w ++ 32 ∷ [])) (decimal h) (numeral h small_h).digits (numeral h small_h).some (ap last_byte (ap (λ x. codes "%%BoundingBox: 0 0 " ++ x) (append_assoc (decimal w) (32 ∷ []) (decimal h))) ∙ e)

  box_line : Line (box (Some z)) b_row
  box_line = row_line (box_text w h) _ (unbroken_digs (decimal w) (32 ∷ decimal h) (numeral w small_w).digits (unbroken_only (decimal h) (numeral h small_h).digits)) last_box (box_kind w h job.wide.0 job.wide.1 job.high.0 job.high.1)

  pages_line : Line (pages (Some n)) p_row
  pages_line = row_line (pages_text n) _ (unbroken_only (decimal n) (numeral n small_n).digits) (last_digs (codes "%%Pages: ") (decimal n) (numeral n small_n).digits (numeral n small_n).some) (pages_kind n job.few)

  rows : done lines (fresh plain) head ≡ line (row mark) ∷ line b_row ∷ line p_row ∷ []
  rows = more_done other (row mark) (b_row ++ p_row) mark_line ∙ ap (λ (ps : List (Piece Context)). line (row mark) ∷ ps) (more_done (box (Some z)) b_row p_row box_line ∙ ap (λ (ps : List (Piece Context)). line b_row ∷ ps) pages_line.single)

  headed : Head n z head
  headed = record {
    closed = more_closed other (row mark) (b_row ++ p_row) mark_line (more_closed (box (Some z)) b_row p_row box_line pages_line.closed);
    allowed = subst AllHead (sym rows) (subst Heads (sym mark_line.means) tt, (subst Heads (sym box_line.means) tt, (subst Heads (sym pages_line.means) tt, tt)));
    announced = ap first_pages rows ∙ ap (λ k. pages_or k (pages_or (kind_of (line b_row)) (first_pages (line p_row ∷ [])))) mark_line.means ∙ ap (λ k. pages_or k (first_pages (line p_row ∷ []))) box_line.means ∙ ap (λ k. pages_or k (first_pages [])) pages_line.means;
    sized = ap first_size rows ∙ ap (λ k. size_or k (size_or (kind_of (line b_row)) (first_size (line p_row ∷ [])))) mark_line.means ∙ ap (λ k. size_or k (first_size (line p_row ∷ []))) box_line.means;
  }

  abbrev got : Read
  got = record { leaves = n; size = z; index = (length head + length closing) ∷ length pre ∷ index_of (length head + length closing + length pre) (leaves_from 1 bodies) }

  regroup : (a b c d p s t e : List ℕ) → (a ++ (b ++ (c ++ (d ++ p)))) ++ (s ++ (t ++ e)) ≡ (a ++ (b ++ c)) ++ (d ++ (p ++ (s ++ (t ++ e))))
  regroup a b c d p s t e = simp append_assoc

  document : Document (printed w h pre bodies) got
  document = record {
    head = head;
    closing = closing;
    preamble = pre;
    leaves = leaves_from 1 bodies;
    last = row (codes "%%Trailer");
    rest = row (codes "%%EOF");
    whole = regroup (row mark) b_row p_row closing pre (sides 1 bodies) (row (codes "%%Trailer")) (row (codes "%%EOF")) ∙ ap (λ x. head ++ (closing ++ (pre ++ (x ++ ending)))) (sym (sides_bytes 1 bodies));
    marked = refl;
    short = job.short;
    headed = headed;
    closes = end_line;
    inked = job.first;
    numbered = numbered 1 bodies (omega (arith, job.few)) job.rest;
    ends = ends;
    count = sym (sides_count 1 bodies);
    index = refl;
  }

  abbrev file : List ℕ
  file = printed w h pre bodies

  is : scanned file ≡ Ok got
  is = whole file got document

  means : meant file ≡ got
  means = ap meant_by is

  shows : Shows w h pre bodies file
  unfolding document
  shows = record {
    accepted = is ∙ ap (λ (o : Read). Ok o) (sym means);
    wide = ap (λ (o : Read). o.size.width) means;
    high = ap (λ (o : Read). o.size.height) means;
    leaves = ap (λ (o : Read). o.leaves) means;
    inks = λ leaf l. ap (λ (o : Read). ink_of file o.index leaf) means ∙ inks file got document leaf l ∙ ap (λ bs. get_or (pre ∷ bs) leaf []) (sides_inks 1 bodies);
  }

pub reads_back : ReadsBack
reads_back w h pre bodies job = shows w h pre bodies job
