-- The laws of every cutter.
use Rattle.std.specs.Prelude.{◌≡◌, ℕ, Bool, true, false, cond, List, [], ◌∷◌, ◌++◌, ◌≢◌, refl}
use Rattle.std.proofs.Common.{sym, ap, subst, ◌∙◌, arith}
use Rattle.std.proofs.lemmas.List.{append_assoc, append-nil}
use Rattle.pages.specs.Pieces.{Piece, Cutter, fresh, grown, feed, after, done, unended, pieces, flat, AllCalm, Inked, KeepsBytes, InksJoin, Split, Splits, Lead, Leads, InksBetween, InksFirst, Cuts}

module _ {C : Type 0} (k : Cutter C) where
  pub after-append : (p : Piece C) (xs ys : List ℕ) → after k p (xs ++ ys) ≡ after k (after k p xs) ys
  after-append p [] ys = refl
  after-append p (x ∷ xs) ys = after-append (feed k p x) xs ys

  -- done and after by the answer to whether the byte completes the piece
  abbrev fed_if : Piece C → ℕ → Bool → Piece C
  fed_if p b t = cond t (fresh (k.behind (grown p b))) (grown p b)

  abbrev done_if : Piece C → ℕ → List (Piece C) → Bool → List (Piece C)
  done_if p b ps t = cond t (grown p b ∷ ps) ps

  done_if_append : (p : Piece C) (b : ℕ) (t : Bool) (ps qs : List (Piece C)) → done_if p b (ps ++ qs) t ≡ done_if p b ps t ++ qs
  done_if_append p b true ps qs = refl
  done_if_append p b false ps qs = refl

  pub done-append : (p : Piece C) (xs ys : List ℕ) → done k p (xs ++ ys) ≡ done k p xs ++ done k (after k p xs) ys
  done-append p [] ys = refl
  done-append p (x ∷ xs) ys =
      ap (λ (ps : List (Piece C)). done_if p x ps (k.whole (grown p x))) (done-append (feed k p x) xs ys)
      ∙ done_if_append p x (k.whole (grown p x)) (done k (feed k p x) xs) (done k (after k (feed k p x) xs) ys)

  abbrev last_of : Piece C → List (Piece C)
  last_of p = unended p.context p.bytes

  pub pieces-append : (p : Piece C) (xs ys : List ℕ) → pieces k p (xs ++ ys) ≡ done k p xs ++ pieces k (after k p xs) ys
  pieces-append p xs ys =
      ap (λ (ps : List (Piece C)). ps ++ last_of (after k p (xs ++ ys))) (done-append p xs ys)
      ∙ ap (λ (q : Piece C). (done k p xs ++ done k (after k p xs) ys) ++ last_of q) (after-append p xs ys)
      ∙ append_assoc (done k p xs) (done k (after k p xs) ys) (last_of (after k (after k p xs) ys))

  calm-append : (ps qs : List (Piece C)) → AllCalm k ps → AllCalm k qs → AllCalm k (ps ++ qs)
  calm-append [] qs a b = b
  calm-append (p ∷ ps) qs a b = (a.0, calm-append ps qs a.1 b)

  pub inked-append : InksJoin k
  inked-append xs ys a b =
      let o = fresh k.outside in
      let q : AllCalm k (done k (after k o xs) ys) = subst (λ (p : Piece C). AllCalm k (done k p ys)) (sym a.closed) b.quiet in
      record {
        closed = after-append o xs ys ∙ ap (λ (p : Piece C). after k p ys) a.closed ∙ b.closed;
        quiet = subst (AllCalm k) (sym (done-append o xs ys)) (calm-append (done k o xs) (done k (after k o xs) ys) a.quiet q);
      }

  pub inked_none : Inked k []
  inked_none = record { closed = refl; quiet = tt }

  -- bytes kept
  flat_append : (ps qs : List (Piece C)) → flat (ps ++ qs) ≡ flat ps ++ flat qs
  flat_append [] qs = refl
  flat_append (p ∷ ps) qs = ap (λ (l : List ℕ). p.bytes ++ l) (flat_append ps qs) ∙ sym (append_assoc p.bytes (flat ps) (flat qs))

  flat_last : (c : C) (bs : List ℕ) → flat (unended c bs) ≡ bs
  flat_last c [] = refl
  flat_last c (b ∷ bs) = append-nil (b ∷ bs)

  -- one byte: what is completed and what is begun by it, together
  flat_step : (p : Piece C) (b : ℕ) (bs : List ℕ) (t : Bool) → flat (done k (fed_if p b t) bs) ++ (after k (fed_if p b t) bs).bytes ≡ (fed_if p b t).bytes ++ bs → flat (done_if p b (done k (fed_if p b t) bs) t) ++ (after k (fed_if p b t) bs).bytes ≡ p.bytes ++ b ∷ bs
  flat_step p b bs true h = append_assoc (p.bytes ++ b ∷ []) (flat (done k (fed_if p b true) bs)) (after k (fed_if p b true) bs).bytes ∙ ap (λ (l : List ℕ). (p.bytes ++ b ∷ []) ++ l) h ∙ append_assoc p.bytes (b ∷ []) bs
  flat_step p b bs false h = h ∙ append_assoc p.bytes (b ∷ []) bs

  pub flat_done : (p : Piece C) (bs : List ℕ) → flat (done k p bs) ++ (after k p bs).bytes ≡ p.bytes ++ bs
  flat_done p [] = sym (append-nil p.bytes)
  flat_done p (b ∷ bs) = flat_step p b bs (k.whole (grown p b)) (flat_done (feed k p b) bs)

  pub flat_pieces : KeepsBytes k
  flat_pieces c bs =
      flat_append (done k (fresh c) bs) (last_of (after k (fresh c) bs))
      ∙ ap (λ (l : List ℕ). flat (done k (fresh c) bs) ++ l) (flat_last (after k (fresh c) bs).context (after k (fresh c) bs).bytes)
      ∙ flat_done (fresh c) bs

  -- taking pieces apart
  nothing : (q : Piece C) (qs : List (Piece C)) → ◌≡◌ {A = List (Piece C)} [] (q ∷ qs) → ⊥
  nothing q qs e = let z : ◌≡◌ {A = ℕ} 0 1 = cc in omega arith

  heads : (q r : Piece C) (qs rs : List (Piece C)) → q ∷ qs ≡ r ∷ rs → q ≡ r
  heads q r qs rs e = cc

  tails : (q r : Piece C) (qs rs : List (Piece C)) → q ∷ qs ≡ r ∷ rs → qs ≡ rs
  tails q r qs rs e = cc

  abbrev pieces_if : Piece C → ℕ → List ℕ → Bool → List (Piece C)
  pieces_if p b bs t = done_if p b (done k (fed_if p b t) bs) t ++ last_of (after k (fed_if p b t) bs)

  lead_last : (c : C) (bs : List ℕ) (q : Piece C) (rest : List (Piece C)) → unended c bs ≡ q ∷ rest → Lead k (record { context = c; bytes = bs }) [] q rest
  lead_last c [] q rest e = absurd (nothing q rest e)
  lead_last c (b ∷ bs) q rest e =
      let is = heads (record { context = c; bytes = b ∷ bs }) q [] rest e in
      record { back = []; whole = ap (λ (x : Piece C). x.bytes ++ []) is; context = sym (ap (λ (x : Piece C). x.context) is); onward = tails (record { context = c; bytes = b ∷ bs }) q [] rest e }

  lead_if : (p : Piece C) (b : ℕ) (bs : List ℕ) (q : Piece C) (rest : List (Piece C)) (t : Bool) → pieces_if p b bs t ≡ q ∷ rest → ((r : Piece C) → pieces k r bs ≡ q ∷ rest → Lead k r bs q rest) → Lead k p (b ∷ bs) q rest
  lead_if p b bs q rest true e ih =
      let is = heads (grown p b) q (pieces k (fresh (k.behind (grown p b))) bs) rest e in
      record {
        back = bs;
        whole = sym (append_assoc p.bytes (b ∷ []) bs) ∙ ap (λ (x : Piece C). x.bytes ++ bs) is;
        context = sym (ap (λ (x : Piece C). x.context) is);
        onward = ap (λ (x : Piece C). pieces k (fresh (k.behind x)) bs) (sym is) ∙ tails (grown p b) q (pieces k (fresh (k.behind (grown p b))) bs) rest e;
      }
  lead_if p b bs q rest false e ih =
      let l = ih (grown p b) e in
      record { back = l.back; whole = sym (append_assoc p.bytes (b ∷ []) bs) ∙ l.whole; context = l.context; onward = l.onward }

  pub leads : Leads k
  leads p [] q rest e = lead_last p.context p.bytes q rest e
  leads p (b ∷ bs) q rest e = lead_if p b bs q rest (k.whole (grown p b)) e (λ r h. leads r bs q rest h)

  -- a piece with another behind it has its end
  record Ended (p : Piece C) (bs : List ℕ) (q : Piece C) (rest : List (Piece C)) : Type 0 where
    front : List ℕ
    back : List ℕ
    whole : bs ≡ front ++ back
    before : done k p front ≡ q ∷ []
    here : after k p front ≡ fresh (k.behind q)
    onward : pieces k (fresh (k.behind q)) back ≡ rest

  one_last : (c : C) (bs : List ℕ) (q r : Piece C) (rs : List (Piece C)) → unended c bs ≢ q ∷ r ∷ rs
  one_last c [] q r rs e = nothing q (r ∷ rs) e
  one_last c (b ∷ bs) q r rs e = nothing r rs (tails (record { context = c; bytes = b ∷ bs }) q [] (r ∷ rs) e)

  abbrev done_one : Piece C → ℕ → List ℕ → Bool → List (Piece C)
  done_one p b bs t = done_if p b (done k (fed_if p b t) bs) t

  ended_if : (p : Piece C) (b : ℕ) (bs : List ℕ) (q : Piece C) (rest : List (Piece C)) (t : Bool) → k.whole (grown p b) ≡ t → pieces_if p b bs t ≡ q ∷ rest → ((r : Piece C) → pieces k r bs ≡ q ∷ rest → Ended r bs q rest) → Ended p (b ∷ bs) q rest
  ended_if p b bs q rest true w e ih =
      let is = heads (grown p b) q (pieces k (fresh (k.behind (grown p b))) bs) rest e in
      record {
        front = b ∷ [];
        back = bs;
        whole = refl;
        before = ap (done_one p b []) w ∙ ap (λ (x : Piece C). x ∷ []) is;
        here = ap (fed_if p b) w ∙ ap (λ (x : Piece C). fresh (k.behind x)) is;
        onward = ap (λ (x : Piece C). pieces k (fresh (k.behind x)) bs) (sym is) ∙ tails (grown p b) q (pieces k (fresh (k.behind (grown p b))) bs) rest e;
      }
  ended_if p b bs q rest false w e ih =
      let r = ih (grown p b) e in
      record {
        front = b ∷ r.front;
        back = r.back;
        whole = ap (λ (l : List ℕ). b ∷ l) r.whole;
        before = ap (done_one p b r.front) w ∙ r.before;
        here = ap (λ (t : Bool). after k (fed_if p b t) r.front) w ∙ r.here;
        onward = r.onward;
      }

  ended : (bs : List ℕ) (p q r : Piece C) (rs : List (Piece C)) → pieces k p bs ≡ q ∷ r ∷ rs → Ended p bs q (r ∷ rs)
  ended [] p q r rs e = absurd (one_last p.context p.bytes q r rs e)
  ended (b ∷ bs) p q r rs e = ended_if p b bs q (r ∷ rs) (k.whole (grown p b)) refl e (λ n h. ended bs n q r rs h)

  split_none : (c : C) (bs : List ℕ) (q : Piece C) (rest : List (Piece C)) → pieces k (fresh c) bs ≡ q ∷ rest → Split k c bs [] q rest
  split_none c bs q rest e =
      let is : q.context ≡ c = (leads (fresh c) bs q rest e).context in
      record { front = []; back = bs; whole = refl; before = refl; here = ap (λ (x : C). fresh x) (sym is); onward = ap (λ (x : C). pieces k (fresh x) bs) is ∙ e }

  split_more : (c : C) (bs : List ℕ) (p : Piece C) (ps : List (Piece C)) (q : Piece C) (rest : List (Piece C)) → (f : Ended (fresh c) bs p (ps ++ q ∷ rest)) → Split k (k.behind p) f.back ps q rest → Split k c bs (p ∷ ps) q rest
  split_more c bs p ps q rest f r = record {
    front = f.front ++ r.front;
    back = r.back;
    whole = f.whole ∙ ap (λ (l : List ℕ). f.front ++ l) r.whole ∙ sym (append_assoc f.front r.front r.back);
    before = done-append (fresh c) f.front r.front ∙ ap (λ (x : Piece C). done k (fresh c) f.front ++ done k x r.front) f.here ∙ ap (λ (l : List (Piece C)). l ++ done k (fresh (k.behind p)) r.front) f.before ∙ ap (λ (l : List (Piece C)). p ∷ l) r.before;
    here = after-append (fresh c) f.front r.front ∙ ap (λ (x : Piece C). after k x r.front) f.here ∙ r.here;
    onward = r.onward;
  }

  pub splits : Splits k
  splits c bs [] q rest e = split_none c bs q rest e
  splits c bs (p ∷ []) q rest e = let f = ended bs (fresh c) p q rest e in split_more c bs p [] q rest f (splits (k.behind p) f.back [] q rest f.onward)
  splits c bs (p ∷ r ∷ ps) q rest e = let f = ended bs (fresh c) p r (ps ++ q ∷ rest) e in split_more c bs p (r ∷ ps) q rest f (splits (k.behind p) f.back (r ∷ ps) q rest f.onward)

  pub inks_between : InksBetween k
  inks_between bs ps q rest e calm out =
      let s = splits k.outside bs ps q rest e in
      (s, record { closed = s.here ∙ ap (λ (x : C). fresh x) out; quiet = subst (AllCalm k) (sym s.before) calm })

  pub inks_first : InksFirst k
  inks_first ink rest i =
      let o = fresh k.outside in (
        pieces-append o ink rest ∙ ap (λ (p : Piece C). done k o ink ++ pieces k p rest) i.closed,
        sym (append-nil (flat (done k o ink))) ∙ ap (λ (p : Piece C). flat (done k o ink) ++ p.bytes) (sym i.closed) ∙ flat_done o ink,
      )

  abbrev pub piece : C → List ℕ → Piece C
  piece c bs = record { context = c; bytes = bs }

  -- bytes that do not complete a piece
  abbrev pub Short : C → List ℕ → List ℕ → Type 0
  Short c acc [] = Unit {0}
  Short c acc (b ∷ bs) = (k.whole (piece c (acc ++ b ∷ [])) ≡ false) × Short c (acc ++ b ∷ []) bs

  pub done_short : (c : C) (acc t : List ℕ) → Short c acc t → done k (piece c acc) t ≡ []
  done_short c acc [] s = refl
  done_short c acc (b ∷ t) s = ap (done_one (piece c acc) b t) s.0 ∙ done_short c (acc ++ b ∷ []) t s.1

  pub after_short : (c : C) (acc t : List ℕ) → Short c acc t → after k (piece c acc) t ≡ piece c (acc ++ t)
  after_short c acc [] s = ap (piece c) (sym (append-nil acc))
  after_short c acc (b ∷ t) s = ap (λ (v : Bool). after k (fed_if (piece c acc) b v) t) s.0 ∙ after_short c (acc ++ b ∷ []) t s.1 ∙ ap (piece c) (append_assoc acc (b ∷ []) t)

  -- one piece, completed by the byte b
  module _ (c : C) (t : List ℕ) (b : ℕ) (s : Short c [] t) (w : k.whole (piece c (t ++ b ∷ [])) ≡ true) where
    pub done_one_piece : done k (fresh c) (t ++ b ∷ []) ≡ piece c (t ++ b ∷ []) ∷ []
    done_one_piece =
        done-append (fresh c) t (b ∷ [])
        ∙ ap (λ (ps : List (Piece C)). ps ++ done k (after k (fresh c) t) (b ∷ [])) (done_short c [] t s)
        ∙ ap (λ (p : Piece C). done k p (b ∷ [])) (after_short c [] t s)
        ∙ ap (done_one (piece c t) b []) w

    pub after_one_piece : after k (fresh c) (t ++ b ∷ []) ≡ fresh (k.behind (piece c (t ++ b ∷ [])))
    after_one_piece = after-append (fresh c) t (b ∷ []) ∙ ap (λ (p : Piece C). feed k p b) (after_short c [] t s) ∙ ap (fed_if (piece c t) b) w

    pub pieces_one_piece : (rest : List ℕ) → pieces k (fresh c) (t ++ b ∷ rest) ≡ piece c (t ++ b ∷ []) ∷ pieces k (fresh (k.behind (piece c (t ++ b ∷ [])))) rest
    pieces_one_piece rest =
        ap (pieces k (fresh c)) (sym (append_assoc t (b ∷ []) rest))
        ∙ pieces-append (fresh c) (t ++ b ∷ []) rest
        ∙ ap (λ (ps : List (Piece C)). ps ++ pieces k (after k (fresh c) (t ++ b ∷ [])) rest) done_one_piece
        ∙ ap (λ (p : Piece C). piece c (t ++ b ∷ []) ∷ pieces k p rest) after_one_piece

  pub cuts : Cuts k
  cuts = record {
    joins = λ p xs ys. (after-append p xs ys, pieces-append p xs ys);
    keeps = flat_pieces;
    inks_join = inked-append;
    splits = splits;
    leads = leads;
    between = inks_between;
    first = inks_first;
  }
