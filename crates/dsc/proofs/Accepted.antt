-- An accepted DSC file has its parts.
use Rattle.std.proofs.Common.{◌≡◌, ℕ, ◌+◌, ◌-◌, ◌≤◌, Bool, true, false, cond, ◌&&◌, eqb, ltb, List, [], ◌∷◌, ◌++◌, length, take, Some, None, Ok, Err, Option, Result, sym, refl, ap, ◌∙◌, subst, arith, length-append}
use Rattle.std.specs.Str.{bytes_eq}
use Rattle.std.proofs.lemmas.Slice.Eq.{bytes_eq-Decides}
use Rattle.std.proofs.lemmas.Bool.{and_parts, eqb-true, ltb-false}
use Rattle.std.proofs.lemmas.List.{append-nil, append_assoc}
use Rattle.pages.specs.declared.faults.Fault.{Fault}
use Rattle.pages.specs.declared.faults.Refusal.TheVariants.{NotDsc, Miscount, TooLong}
use Rattle.pages.specs.declared.maps.Size.{Size}
use Rattle.pages.specs.Pieces.{Piece, fresh, after, done, AllCalm}
use Rattle.pages.specs.Inks.{Context, plain, lines, line, lines_of, text_of, Ink}
use Rattle.pages.proofs.Cuts.{leads, done-append, after-append, inked-append, inked_none}
use Rattle.dsc.specs.declared.scanner.Part.{Part}
use Rattle.dsc.specs.declared.scanner.Part.TheVariants.{Head, Preamble, Leaves}
use Rattle.dsc.specs.declared.scanner.Scanner.{Scanner}
use Rattle.dsc.specs.Bounds.{longest, mark}
use Rattle.dsc.specs.Comments.{Kind, end_comments, trailer, pages, box, page, other}
use Rattle.pages.specs.Meaning.{fault}
use Rattle.dsc.specs.Scans.{Read, read, follow, run, start, scanned, letter, goes, ends, stops, in_head, in_body, by_part, pair, at_line, kind_of, end_head}
use Rattle.dsc.specs.Documents.{Line, Heads, AllHead, pages_or, size_or, first_pages, first_size, Leaf, bytes_of, index_of, Numbered, Ends, Document}
use Rattle.dsc.proofs.Calm.{calm, kind_calm}
use Rattle.dsc.proofs.Grows.{never, same_read}
use Rattle.dsc.proofs.Wholes.{First, first, is_line}

-- past the head
abbrev pub Body : Part → Type 0
Body (Head p z) = ⊥
Body Preamble = Unit {0}
Body Leaves = Unit {0}

pub part_body : (p : Part) (s : Scanner) (at next : ℕ) (k : Kind) → Body p → by_part p s at next k ≡ in_body s at next k
part_body (Head p z) s at next k b = absurd b
part_body Preamble s at next k b = refl
part_body Leaves s at next k b = refl

-- a reading that is not at its end has a line behind this one
follows : (ps : List (Piece Context)) (bs : List ℕ) (p : Piece Context) (s : Scanner) (at : ℕ) (xs : List ℕ) (o : Read) → lines_of bs ≡ p ∷ ps → run s at xs ps ≡ Ok o → First bs p ps
follows [] bs p s at xs o is e = absurd (never _ o e)
follows (q ∷ rest) bs p s at xs o is e = first bs p q rest is

-- what is left of a reading past the head
record Left (i n : ℕ) (z : Size) (from at : ℕ) (xs bs : List ℕ) (o : Read) : Type 0 where
  ink : List ℕ
  leaves : List Leaf
  last : List ℕ
  rest : List ℕ
  whole : bs ≡ ink ++ (bytes_of leaves ++ (last ++ rest))
  inked : Ink ink
  numbered : Numbered (i + 1) leaves
  ended : Ends last rest
  count : o.leaves ≡ i + length leaves
  total : o.leaves ≡ n
  size : o.size ≡ z
  index : o.index ≡ xs ++ (from ∷ (at + length ink - from) ∷ index_of (at + length ink) leaves)

abbrev LeftAt : Scanner → ℕ → List ℕ → List ℕ → Read → Type 0
LeftAt s at xs bs o = Left s.begun s.pages s.size s.from at xs bs o

module _ (p : Piece Context) (ps : List (Piece Context)) (bs : List ℕ) (s : Scanner) (at : ℕ) (xs : List ℕ) (o : Read) (low : s.from ≤ at) (is : lines_of bs ≡ p ∷ ps) where
  abbrev l : List ℕ
  l = p.bytes

  abbrev next : ℕ
  next = at + length l

  abbrev on : Scanner → List ℕ → Result Read Fault
  on s' ys = run s' next ys ps

  abbrev Ih : Type 0
  Ih = (s' : Scanner) (ys cs : List ℕ) → Body s'.part → s'.from ≤ next → lines_of cs ≡ ps → run s' next ys ps ≡ Ok o → LeftAt s' next ys cs o

  abbrev Goal : Type 0
  Goal = LeftAt s at xs bs o

  stays : Body s.part → calm (kind_of p) ≡ true → Ih → run s next (xs ++ []) ps ≡ Ok o → Goal
  stays b c ih e =
      let f = follows ps bs p s next (xs ++ []) o is e in
      let r = ih s (xs ++ []) f.back b (omega arith) f.onward e in
      let mine : Ink l = record { closed = f.closed; quiet = subst (AllCalm lines) (sym f.single) (sym (kind_calm (text_of l)) ∙ c, tt) } in
      let n : next + length r.ink ≡ at + length (l ++ r.ink) = omega (arith, length-append l r.ink) in
      record {
        ink = l ++ r.ink;
        leaves = r.leaves;
        last = r.last;
        rest = r.rest;
        whole = f.whole ∙ ap (λ x. l ++ x) r.whole ∙ sym (append_assoc l r.ink (bytes_of r.leaves ++ (r.last ++ r.rest)));
        inked = inked-append lines l r.ink mine r.inked;
        numbered = r.numbered;
        ended = r.ended;
        count = r.count;
        total = r.total;
        size = r.size;
        index = r.index ∙ ap (λ ys. ys ++ (s.from ∷ (next + length r.ink - s.from) ∷ index_of (next + length r.ink) r.leaves)) (append-nil xs) ∙ ap (λ m. xs ++ (s.from ∷ (m - s.from) ∷ index_of m r.leaves)) n;
      }

  closes : kind_of p ≡ trailer → (b : Bool) → eqb s.begun s.pages ≡ b → follow (cond b (ends s (pair s at)) (stops (at_line Miscount s at))) xs on ≡ Ok o → Goal
  closes k true t e =
      let made = same_read (read s (xs ++ pair s at)) o e in
      let n : at ≡ at + 0 = omega arith in
      let d = leads lines (fresh plain) bs p ps is in
      record {
        ink = [];
        leaves = [];
        last = l;
        rest = d.back;
        whole = d.whole;
        inked = inked_none lines;
        numbered = tt;
        ended = record { first = ap lines_of (sym d.whole) ∙ is ∙ ap (λ (q : Piece Context). q ∷ ps) (is_line p) ∙ ap (λ (qs : List (Piece Context)). line l ∷ qs) (sym d.onward); means = k };
        count = sym (ap (λ (q : Read). q.leaves) made) ∙ omega arith;
        total = sym (ap (λ (q : Read). q.leaves) made) ∙ eqb-true _ _ t;
        size = sym (ap (λ (q : Read). q.size) made);
        index = sym (ap (λ (q : Read). q.index) made) ∙ ap (λ m. xs ++ (s.from ∷ (m - s.from) ∷ [])) n;
      }
  closes k false t e = absurd (never _ o e)

  abbrev opened : Scanner
  opened = record { part = Leaves; pages = s.pages; size = s.size; begun = s.begun + 1; from = next }

  opens : (label : List ℕ) (v : ℕ) → kind_of p ≡ page label (Some v) → Ih → (b : Bool) → (ltb s.begun s.pages && eqb v (s.begun + 1)) ≡ b → follow (cond b (goes opened (pair s at)) (stops (at_line Miscount s at))) xs on ≡ Ok o → Goal
  opens label v k ih true t e =
      let f = follows ps bs p opened next (xs ++ pair s at) o is e in
      let r = ih opened (xs ++ pair s at) f.back tt (omega arith) f.onward e in
      let ord : v ≡ s.begun + 1 = eqb-true v (s.begun + 1) (and_parts (ltb s.begun s.pages) (eqb v (s.begun + 1)) t).1 in
      let n : at ≡ at + 0 = omega arith in
      let m : next + length r.ink - next ≡ length r.ink = omega arith in
      record {
        ink = [];
        leaves = record { opener = l; ink = r.ink } ∷ r.leaves;
        last = r.last;
        rest = r.rest;
        whole = f.whole ∙ ap (λ x. l ++ x) (r.whole ∙ sym (append_assoc r.ink (bytes_of r.leaves) (r.last ++ r.rest))) ∙ sym (append_assoc l (r.ink ++ bytes_of r.leaves) (r.last ++ r.rest));
        inked = inked_none lines;
        numbered = ((label, record { closed = f.closed; single = f.single; means = k ∙ ap (λ j. page label (Some j)) ord }), r.inked, r.numbered);
        ended = r.ended;
        count = r.count ∙ omega arith;
        total = r.total;
        size = r.size;
        index = r.index ∙ append_assoc xs (pair s at) _ ∙ ap (λ j. xs ++ (s.from ∷ (at - s.from) ∷ next ∷ j ∷ index_of (next + length r.ink) r.leaves)) m ∙ ap (λ a. xs ++ (s.from ∷ (a - s.from) ∷ (a + length l) ∷ length r.ink ∷ index_of (a + length l + length r.ink) r.leaves)) n;
      }
  opens label v k ih false t e = absurd (never _ o e)

  by_kind : (k : Kind) → kind_of p ≡ k → Body s.part → Ih → follow (in_body s at next k) xs on ≡ Ok o → Goal
  by_kind end_comments k b ih e = stays b (ap calm k) ih e
  by_kind trailer k b ih e = closes k (eqb s.begun s.pages) refl e
  by_kind (pages v) k b ih e = stays b (ap calm k) ih e
  by_kind (box v) k b ih e = stays b (ap calm k) ih e
  by_kind (page label None) k b ih e = absurd (never _ o e)
  by_kind (page label (Some v)) k b ih e = opens label v k ih (ltb s.begun s.pages && eqb v (s.begun + 1)) refl e
  by_kind other k b ih e = stays b (ap calm k) ih e

left_of : (ps : List (Piece Context)) (bs : List ℕ) (s : Scanner) (at : ℕ) (xs : List ℕ) (o : Read) → Body s.part → s.from ≤ at → lines_of bs ≡ ps → run s at xs ps ≡ Ok o → LeftAt s at xs bs o
left_of [] bs s at xs o b low is e = absurd (never _ o e)
left_of (p ∷ ps) bs s at xs o b low is e =
    by_kind p ps bs s at xs o low is (kind_of p) refl b
    (λ s' ys cs b' low' is' e'. left_of ps cs s' (at + length p.bytes) ys o b' low' is' e')
    (sym (ap (λ t. follow t xs (λ s' ys. run s' (at + length p.bytes) ys ps)) (part_body s.part s at (at + length p.bytes) (kind_of p) b)) ∙ e)

-- a value that came, or else the first that comes
abbrev pub or_else : {A : Type 0} → Option A → Option A → Option A
or_else (Some a) v = Some a
or_else None v = v

-- what is left of a reading in the head
record Headed (came : Option ℕ) (box-came : Option Size) (at : ℕ) (xs bs : List ℕ) (o : Read) : Type 0 where
  head : List ℕ
  closing : List ℕ
  rest : List ℕ
  whole : bs ≡ head ++ (closing ++ rest)
  closed : after lines (fresh plain) head ≡ fresh plain
  allowed : AllHead (done lines (fresh plain) head)
  announced : or_else came (first_pages (done lines (fresh plain) head)) ≡ Some o.leaves
  sized : or_else box-came (first_size (done lines (fresh plain) head)) ≡ Some o.size
  ended : Line end_comments closing
  left : Left 0 o.leaves o.size (at + length head + length closing) (at + length head + length closing) xs rest o

abbrev pub before : Option ℕ → Option Size → Scanner
before p z = record { part = Head p z; pages = 0; size = letter; begun = 0; from = 0 }

module _ (p : Piece Context) (ps : List (Piece Context)) (bs : List ℕ) (at : ℕ) (xs : List ℕ) (o : Read) (is : lines_of bs ≡ p ∷ ps) where
  abbrev row : List ℕ
  row = p.bytes

  abbrev go : Scanner → List ℕ → Result Read Fault
  go s' ys = run s' (at + length row) ys ps

  abbrev Hh : Type 0
  Hh = (n : Option ℕ) (z : Option Size) (cs : List ℕ) → lines_of cs ≡ ps → run (before n z) (at + length row) xs ps ≡ Ok o → Headed n z (at + length row) xs cs o

  skips : Hh → (n m : Option ℕ) (z y : Option Size) → Heads (kind_of p) → ((v : Option ℕ) → or_else n (pages_or (kind_of p) v) ≡ or_else m v) → ((v : Option Size) → or_else z (size_or (kind_of p) v) ≡ or_else y v) → run (before m y) (at + length row) (xs ++ []) ps ≡ Ok o → Headed n z at xs bs o
  skips hh n m z y h count box-is e =
      let go_on : run (before m y) (at + length row) xs ps ≡ Ok o = ap (λ ys. run (before m y) (at + length row) ys ps) (sym (append-nil xs)) ∙ e in
      let f = follows ps bs p (before m y) (at + length row) xs o is go_on in
      let r = hh m y f.back f.onward go_on in
      let made : done lines (fresh plain) (row ++ r.head) ≡ line row ∷ done lines (fresh plain) r.head = done-append lines (fresh plain) row r.head ∙ ap (λ (q : Piece Context). done lines (fresh plain) row ++ done lines q r.head) f.closed ∙ ap (λ (qs : List (Piece Context)). qs ++ done lines (fresh plain) r.head) f.single in
      let long : at + length row + length r.head + length r.closing ≡ at + length (row ++ r.head) + length r.closing = omega (arith, length-append row r.head) in
      record {
        head = row ++ r.head;
        closing = r.closing;
        rest = r.rest;
        whole = f.whole ∙ ap (λ x. row ++ x) r.whole ∙ sym (append_assoc row r.head (r.closing ++ r.rest));
        closed = after-append lines (fresh plain) row r.head ∙ ap (λ (q : Piece Context). after lines q r.head) f.closed ∙ r.closed;
        allowed = subst AllHead (sym made) (h, r.allowed);
        announced = ap (λ (qs : List (Piece Context)). or_else n (first_pages qs)) made ∙ count (first_pages (done lines (fresh plain) r.head)) ∙ r.announced;
        sized = ap (λ (qs : List (Piece Context)). or_else z (first_size qs)) made ∙ box-is (first_size (done lines (fresh plain) r.head)) ∙ r.sized;
        ended = r.ended;
        left = subst (λ a. Left 0 o.leaves o.size a a xs r.rest o) long r.left;
      }

  enters : kind_of p ≡ end_comments → (n : Option ℕ) (z : Option Size) → follow (end_head n z (before n z) at (at + length row)) xs go ≡ Ok o → Headed n z at xs bs o
  enters k (Some n) (Some z) e =
      let s' : Scanner = record { part = Preamble; pages = n; size = z; begun = 0; from = at + length row } in
      let go_on : run s' (at + length row) xs ps ≡ Ok o = ap (λ ys. run s' (at + length row) ys ps) (sym (append-nil xs)) ∙ e in
      let f = follows ps bs p s' (at + length row) xs o is go_on in
      let r = left_of ps f.back s' (at + length row) xs o tt (omega arith) f.onward go_on in
      let a : at + length row ≡ at + 0 + length row = omega arith in
      record {
        head = [];
        closing = row;
        rest = f.back;
        whole = f.whole;
        closed = refl;
        allowed = tt;
        announced = ap (λ m. Some m) (sym r.total);
        sized = ap (λ (y : Size). Some y) (sym r.size);
        ended = record { closed = f.closed; single = f.single; means = k };
        left = subst (λ m. Left 0 o.leaves o.size m m xs f.back o) a (subst (λ m. Left 0 m o.size (at + length row) (at + length row) xs f.back o) (sym r.total) (subst (λ (y : Size). Left 0 n y (at + length row) (at + length row) xs f.back o) (sym r.size) r));
      }
  enters k (Some n) None e = absurd (never _ o e)
  enters k None z e = absurd (never _ o e)

  -- the value of this line, where none came before
  now_pages : (v : ℕ) → kind_of p ≡ pages (Some v) → (w : Option ℕ) → or_else None (pages_or (kind_of p) w) ≡ or_else (Some v) w
  now_pages v k w = ap (λ q. pages_or q w) k

  now_size : (v : Size) → kind_of p ≡ box (Some v) → (w : Option Size) → or_else None (size_or (kind_of p) w) ≡ or_else (Some v) w
  now_size v k w = ap (λ q. size_or q w) k

  heads : (k : Kind) → kind_of p ≡ k → (n : Option ℕ) (z : Option Size) → Hh → follow (in_head n z (before n z) at (at + length row) k) xs go ≡ Ok o → Headed n z at xs bs o
  heads end_comments k n z hh e = enters k n z e
  heads trailer k n z hh e = absurd (never _ o e)
  heads (pages v) k (Some m) z hh e = skips hh (Some m) (Some m) z z (subst Heads (sym k) tt) (λ w. refl) (λ w. ap (λ q. or_else z (size_or q w)) k) e
  heads (pages None) k None z hh e = absurd (never _ o e)
  heads (pages (Some m)) k None z hh e = skips hh None (Some m) z z (subst Heads (sym k) tt) (now_pages m k) (λ w. ap (λ q. or_else z (size_or q w)) k) e
  heads (box v) k n (Some m) hh e = skips hh n n (Some m) (Some m) (subst Heads (sym k) tt) (λ w. ap (λ q. or_else n (pages_or q w)) k) (λ w. refl) e
  heads (box None) k n None hh e = absurd (never _ o e)
  heads (box (Some m)) k n None hh e = skips hh n n None (Some m) (subst Heads (sym k) tt) (λ w. ap (λ q. or_else n (pages_or q w)) k) (now_size m k) e
  heads (page label v) k n z hh e = absurd (never _ o e)
  heads other k n z hh e = skips hh n n z z (subst Heads (sym k) tt) (λ w. ap (λ q. or_else n (pages_or q w)) k) (λ w. ap (λ q. or_else z (size_or q w)) k) e

headed : (ps : List (Piece Context)) (bs : List ℕ) (at : ℕ) (xs : List ℕ) (o : Read) (n : Option ℕ) (z : Option Size) → lines_of bs ≡ ps → run (before n z) at xs ps ≡ Ok o → Headed n z at xs bs o
headed [] bs at xs o n z is e = absurd (never _ o e)
headed (p ∷ ps) bs at xs o n z is e = heads p ps bs at xs o is (kind_of p) refl n z (λ n' z' cs is' e'. headed ps cs (at + length p.bytes) xs o n' z' is' e') e

-- the checks before the first line
record Opened (file : List ℕ) (o : Read) : Type 0 where
  short : length file ≤ longest
  marked : take 14 file ≡ mark
  run_is : run start 0 [] (lines_of file) ≡ Ok o

opened_by : (file : List ℕ) (o : Read) (a b : Bool) → ltb longest (length file) ≡ a → bytes_eq mark (take 14 file) ≡ b → cond a (Err (fault TooLong 1 0)) (cond b (run start 0 [] (lines_of file)) (Err (fault NotDsc 1 0))) ≡ Ok o → Opened file o
opened_by file o true b p q e = absurd (never _ o e)
opened_by file o false true p q e = record { short = ltb-false _ _ p; marked = sym ((bytes_eq-Decides mark (take 14 file)).0 q); run_is = e }
opened_by file o false false p q e = absurd (never _ o e)

pub parts : (file : List ℕ) (o : Read) → scanned file ≡ Ok o → Document file o
parts file o e =
    let w = opened_by file o (ltb longest (length file)) (bytes_eq mark (take 14 file)) refl refl e in
    let h = headed (lines_of file) file 0 [] o None None refl w.run_is in
    let r = h.left in
    let a : 0 + length h.head + length h.closing ≡ length h.head + length h.closing = omega arith in
    let n : length h.head + length h.closing + length r.ink - (length h.head + length h.closing) ≡ length r.ink = omega arith in
    record {
      head = h.head;
      closing = h.closing;
      preamble = r.ink;
      leaves = r.leaves;
      last = r.last;
      rest = r.rest;
      whole = h.whole ∙ ap (λ x. h.head ++ (h.closing ++ x)) r.whole;
      marked = w.marked;
      short = w.short;
      headed = record { closed = h.closed; allowed = h.allowed; announced = h.announced; sized = h.sized };
      closes = h.ended;
      inked = r.inked;
      numbered = r.numbered;
      ends = r.ended;
      count = r.count ∙ omega arith;
      index = r.index ∙ ap (λ m. m ∷ (m + length r.ink - m) ∷ index_of (m + length r.ink) r.leaves) a ∙ ap (λ m. (length h.head + length h.closing) ∷ m ∷ index_of (length h.head + length h.closing + length r.ink) r.leaves) n;
    }
