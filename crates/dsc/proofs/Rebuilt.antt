-- A file that has the parts of a document is accepted.
use Rattle.std.proofs.Common.{◌≡◌, ℕ, ◌+◌, ◌-◌, true, ◌&&◌, eqb, ltb, List, [], ◌∷◌, ◌++◌, length, take, Some, None, Ok, Option, Result, sym, refl, ap, ◌∙◌, add-zero, arith, length-append}
use Rattle.std.proofs.lemmas.Slice.Eq.{bytes_eq-Decides}
use Rattle.std.proofs.lemmas.Bool.{cond-true, cond-false, and_from, eq-eqb, lt-ltb, le-ltb, false≢true}
use Rattle.std.proofs.lemmas.List.{append-nil, append_assoc}
use Rattle.pages.specs.declared.faults.Fault.{Fault}
use Rattle.pages.specs.declared.maps.Size.{Size}
use Rattle.pages.specs.Pieces.{Piece, fresh, done, flat, AllCalm}
use Rattle.pages.specs.Inks.{Context, plain, lines, lines_of, text_of, Ink}
use Rattle.dsc.specs.declared.scanner.Part.{Part}
use Rattle.dsc.specs.declared.scanner.Part.TheVariants.{Preamble, Leaves}
use Rattle.dsc.specs.declared.scanner.Scanner.{Scanner}
use Rattle.dsc.specs.Bounds.{longest, mark}
use Rattle.dsc.specs.Comments.{Kind, end_comments, trailer, pages, box, page, other}
use Rattle.dsc.specs.Scans.{Read, follow, run, start, scanned, goes, in_head, in_body, step, kind_of}
use Rattle.dsc.specs.Documents.{Line, Heads, AllHead, pages_or, size_or, first_pages, first_size, Leaf, bytes_of, index_of, Numbered, Ends, Document}
use Rattle.dsc.proofs.Calm.{calm, kind_calm}
use Rattle.dsc.proofs.Wholes.{behind, flat_closed}
use Rattle.dsc.proofs.Accepted.{Body, part_body, or_else, before}

-- past an ink
still : (s : Scanner) (at next : ℕ) (k : Kind) → calm k ≡ true → in_body s at next k ≡ goes s []
still s at next end_comments c = refl
still s at next trailer c = absurd (false≢true c)
still s at next (pages v) c = refl
still s at next (box v) c = refl
still s at next (page l o) c = absurd (false≢true c)
still s at next other c = refl

-- a line that only leads to another state
passes : (p : Piece Context) (ps qs : List (Piece Context)) (s t : Scanner) (at : ℕ) (xs : List ℕ) → step s at (at + length p.bytes) (kind_of p) ≡ goes t [] → run s at xs ((p ∷ ps) ++ qs) ≡ run t (at + length p.bytes) xs (ps ++ qs)
passes p ps qs s t at xs e = ap (λ w. follow w xs (λ s' ys. run s' (at + length p.bytes) ys (ps ++ qs))) e ∙ ap (λ ys. run t (at + length p.bytes) ys (ps ++ qs)) (append-nil xs)

-- the offset after pieces
further : (p : Piece Context) (ps qs : List (Piece Context)) (t : Scanner) (at : ℕ) (xs : List ℕ) → run t (at + length p.bytes + length (flat ps)) xs qs ≡ run t (at + length (flat (p ∷ ps))) xs qs
further p ps qs t at xs = let n : at + length p.bytes + length (flat ps) ≡ at + length (p.bytes ++ flat ps) = omega (arith, length-append p.bytes (flat ps)) in ap (λ m. run t m xs qs) n

calm_run : (ps qs : List (Piece Context)) (s : Scanner) (at : ℕ) (xs : List ℕ) → Body s.part → AllCalm lines ps → run s at xs (ps ++ qs) ≡ run s (at + length (flat ps)) xs qs
calm_run [] qs s at xs b q = ap (λ n. run s n xs qs) (sym (add-zero at))
calm_run (p ∷ ps) qs s at xs b q =
    passes p ps qs s s at xs (part_body s.part s at (at + length p.bytes) (kind_of p) b ∙ still s at (at + length p.bytes) (kind_of p) (kind_calm (text_of p.bytes) ∙ q.0))
    ∙ calm_run ps qs s (at + length p.bytes) xs b q.1
    ∙ further p ps qs s at xs

pub run_ink : (ink rest : List ℕ) (s : Scanner) (at : ℕ) (xs : List ℕ) → Body s.part → Ink ink → run s at xs (lines_of (ink ++ rest)) ≡ run s (at + length ink) xs (lines_of rest)
run_ink ink rest s at xs b i =
    ap (run s at xs) (behind ink rest i.closed)
    ∙ calm_run (done lines (fresh plain) ink) (lines_of rest) s at xs b i.quiet
    ∙ ap (λ l. run s (at + length l) xs (lines_of rest)) (flat_closed ink i.closed)

-- past a line of some kind
abbrev past : Scanner → ℕ → List ℕ → List ℕ → List ℕ → Kind → Result Read Fault
past s at xs l rest k = follow (step s at (at + length l) k) xs (λ s' ys. run s' (at + length l) ys (lines_of rest))

pub run_line : (k : Kind) (l rest : List ℕ) (s : Scanner) (at : ℕ) (xs : List ℕ) → Line k l → run s at xs (lines_of (l ++ rest)) ≡ past s at xs l rest k
run_line k l rest s at xs h =
    ap (run s at xs) (behind l rest h.closed ∙ ap (λ (ps : List (Piece Context)). ps ++ lines_of rest) h.single)
    ∙ ap (past s at xs l rest) h.means

-- past the leaves
abbrev state : Part → ℕ → Size → ℕ → ℕ → Scanner
state p n z i from = record { part = p; pages = n; size = z; begun = i; from = from }

abbrev result : ℕ → Size → List ℕ → Result Read Fault
result n z xs = Ok (record { leaves = n; size = z; index = xs })

assoc_three : (a b c d : List ℕ) → (a ++ (b ++ c)) ++ d ≡ a ++ (b ++ (c ++ d))
assoc_three a b c d = append_assoc a (b ++ c) d ∙ ap (λ x. a ++ x) (append_assoc b c d)

run_leaves : (fs : List Leaf) (last rest : List ℕ) (p : Part) (n : ℕ) (z : Size) (i from at : ℕ) (xs : List ℕ) → Body p → n ≡ i + length fs → Numbered (i + 1) fs → Ends last rest → run (state p n z i from) at xs (lines_of (bytes_of fs ++ (last ++ rest))) ≡ result n z (xs ++ (from ∷ (at - from) ∷ index_of at fs))
run_leaves [] last rest p n z i from at xs b e num end =
    let is : i ≡ n = omega arith in
    ap (run (state p n z i from) at xs) end.first
    ∙ ap (past (state p n z i from) at xs last rest) end.means
    ∙ ap (λ t. follow t xs (λ s' ys. run s' (at + length last) ys (lines_of rest))) (part_body p (state p n z i from) at (at + length last) trailer b ∙ cond-true (eqb i n) _ _ (eq-eqb _ _ is))
    ∙ ap (λ m. result m z (xs ++ from ∷ (at - from) ∷ [])) is
run_leaves (f ∷ fs) last rest p n z i from at xs b e num end =
    let next = at + length f.opener in
    let k = page num.0.0 (Some (i + 1)) in
    let m : next + length f.ink - next ≡ length f.ink = omega arith in
    ap (λ x. run (state p n z i from) at xs (lines_of x)) (assoc_three f.opener f.ink (bytes_of fs) (last ++ rest))
    ∙ run_line k f.opener (f.ink ++ (bytes_of fs ++ (last ++ rest))) (state p n z i from) at xs num.0.1
    ∙ ap (λ t. follow t xs (λ s' ys. run s' next ys (lines_of (f.ink ++ (bytes_of fs ++ (last ++ rest)))))) (part_body p (state p n z i from) at next k b ∙ cond-true (ltb i n && eqb (i + 1) (i + 1)) _ _ (and_from (ltb i n) _ (lt-ltb i n (omega arith)) (eq-eqb (i + 1) (i + 1) refl)))
    ∙ run_ink f.ink (bytes_of fs ++ (last ++ rest)) (state Leaves n z (i + 1) next) next (xs ++ from ∷ (at - from) ∷ []) tt num.1
    ∙ run_leaves fs last rest Leaves n z (i + 1) next (next + length f.ink) (xs ++ from ∷ (at - from) ∷ []) tt (omega arith) num.2 end
    ∙ ap (result n z) (append_assoc xs (from ∷ (at - from) ∷ []) (next ∷ (next + length f.ink - next) ∷ index_of (next + length f.ink) fs) ∙ ap (λ j. xs ++ (from ∷ (at - from) ∷ next ∷ j ∷ index_of (next + length f.ink) fs)) m)

-- past the head
or_none : {A : Type 0} (o : Option A) → or_else o None ≡ o
or_none (Some a) = refl
or_none None = refl

none_some : {A : Type 0} (a : A) → ◌≡◌ {A = Option A} None (Some a) → ⊥
none_some a e = let z : ◌≡◌ {A = ℕ} 0 1 = cc in omega arith

module _ (count : ℕ) (size : Size) where
  abbrev ready : Scanner
  ready = before (Some count) (Some size)

  module _ (p : Piece Context) (ps qs : List (Piece Context)) (at : ℕ) (xs : List ℕ) (allowed : AllHead ps) where
    abbrev Ih : Type 0
    Ih = (n : Option ℕ) (z : Option Size) → or_else n (first_pages ps) ≡ Some count → or_else z (first_size ps) ≡ Some size → run (before n z) (at + length p.bytes) xs (ps ++ qs) ≡ run ready (at + length p.bytes + length (flat ps)) xs qs

    abbrev Goal : Option ℕ → Option Size → Type 0
    Goal n z = run (before n z) at xs ((p ∷ ps) ++ qs) ≡ run ready (at + length (flat (p ∷ ps))) xs qs

    goes_on : (n m : Option ℕ) (z y : Option Size) → Ih → step (before n z) at (at + length p.bytes) (kind_of p) ≡ goes (before m y) [] → or_else m (first_pages ps) ≡ Some count → or_else y (first_size ps) ≡ Some size → Goal n z
    goes_on n m z y ih e c s = passes p ps qs (before n z) (before m y) at xs e ∙ ih m y c s ∙ further p ps qs ready at xs

    by_kind : (k : Kind) → kind_of p ≡ k → Heads k → (n : Option ℕ) (z : Option Size) → or_else n (pages_or k (first_pages ps)) ≡ Some count → or_else z (size_or k (first_size ps)) ≡ Some size → Ih → Goal n z
    by_kind end_comments k h n z c s ih = absurd h
    by_kind trailer k h n z c s ih = absurd h
    by_kind (pages v) k h (Some m) z c s ih = goes_on (Some m) (Some m) z z ih (ap (in_head (Some m) z (before (Some m) z) at (at + length p.bytes)) k) c s
    by_kind (pages None) k h None z c s ih = absurd (none_some count c)
    by_kind (pages (Some m)) k h None z c s ih = goes_on None (Some m) z z ih (ap (in_head None z (before None z) at (at + length p.bytes)) k) c s
    by_kind (box v) k h n (Some m) c s ih = goes_on n n (Some m) (Some m) ih (ap (in_head n (Some m) (before n (Some m)) at (at + length p.bytes)) k) c s
    by_kind (box None) k h n None c s ih = absurd (none_some size s)
    by_kind (box (Some m)) k h n None c s ih = goes_on n n None (Some m) ih (ap (in_head n None (before n None) at (at + length p.bytes)) k) c s
    by_kind (page l o) k h n z c s ih = absurd h
    by_kind other k h n z c s ih = goes_on n n z z ih (ap (in_head n z (before n z) at (at + length p.bytes)) k) c s

  head_run : (ps qs : List (Piece Context)) (n : Option ℕ) (z : Option Size) (at : ℕ) (xs : List ℕ) → AllHead ps → or_else n (first_pages ps) ≡ Some count → or_else z (first_size ps) ≡ Some size → run (before n z) at xs (ps ++ qs) ≡ run ready (at + length (flat ps)) xs qs
  head_run [] qs n z at xs a c s =
      ap (λ m. run (before m z) at xs qs) (sym (or_none n) ∙ c)
      ∙ ap (λ y. run (before (Some count) y) at xs qs) (sym (or_none z) ∙ s)
      ∙ ap (λ m. run ready m xs qs) (sym (add-zero at))
  head_run (p ∷ ps) qs n z at xs a c s = by_kind p ps qs at xs a.1 (kind_of p) refl a.0 n z c s (λ m y c' s'. head_run ps qs m y (at + length p.bytes) xs a.1 c' s')

pub whole : (file : List ℕ) (o : Read) → Document file o → scanned file ≡ Ok o
whole file o d =
    let h = d.headed in
    let body = bytes_of d.leaves ++ (d.last ++ d.rest) in
    let after-head = d.closing ++ (d.preamble ++ body) in
    let a = length d.head in
    let b = length d.head + length d.closing in
    let s : Scanner = state Preamble o.leaves o.size 0 b in
    let n : b + length d.preamble - b ≡ length d.preamble = omega arith in
    let zero_a : 0 + length d.head ≡ length d.head = omega arith in
    cond-false _ _ _ (le-ltb longest (length file) d.short)
    ∙ cond-true _ _ _ ((bytes_eq-Decides mark (take 14 file)).1 (sym d.marked))
    ∙ ap (λ f. run start 0 [] (lines_of f)) d.whole
    ∙ ap (run start 0 []) (behind d.head after-head h.closed)
    ∙ head_run o.leaves o.size (done lines (fresh plain) d.head) (lines_of after-head) None None 0 [] h.allowed h.announced h.sized
    ∙ ap (λ l. run (before (Some o.leaves) (Some o.size)) (0 + length l) [] (lines_of after-head)) (flat_closed d.head h.closed)
    ∙ ap (λ m. run (before (Some o.leaves) (Some o.size)) m [] (lines_of after-head)) zero_a
    ∙ run_line end_comments d.closing (d.preamble ++ body) (before (Some o.leaves) (Some o.size)) a [] d.closes
    ∙ run_ink d.preamble body s b [] tt d.inked
    ∙ run_leaves d.leaves d.last d.rest Preamble o.leaves o.size 0 b (b + length d.preamble) [] tt (d.count ∙ omega arith) d.numbered d.ends
    ∙ ap (λ m. result o.leaves o.size (b ∷ m ∷ index_of (b + length d.preamble) d.leaves)) n
    ∙ ap (result o.leaves o.size) (sym d.index)
