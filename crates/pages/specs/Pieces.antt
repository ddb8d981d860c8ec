-- Bytes cut into pieces, one after the other, each by the context that it stands in.
use Rattle.std.specs.Prelude.{◌≡◌, ℕ, Bool, true, cond, List, [], ◌∷◌, ◌++◌}

-- bytes, and the context that they stand in
pub record Piece (C : Type 0) : Type 0 where
  pub context : C
  pub bytes : List ℕ

-- how bytes are cut: the context at the start; whether a piece has all its bytes; the context behind a piece;
-- and whether a piece may stand in an ink
pub record Cutter (C : Type 0) : Type 0 where
  pub outside : C
  pub whole : Piece C → Bool
  pub behind : Piece C → C
  pub calm : Piece C → Bool

-- a piece that has no byte yet
abbrev pub fresh : {C : Type 0} → C → Piece C
fresh c = record { context = c; bytes = [] }

-- a piece with one byte more
abbrev pub grown : {C : Type 0} → Piece C → ℕ → Piece C
grown p b = record { context = p.context; bytes = p.bytes ++ b ∷ [] }

-- the piece that is begun, after one byte more, and after several
abbrev pub feed : {C : Type 0} → Cutter C → Piece C → ℕ → Piece C
feed k p b = cond (k.whole (grown p b)) (fresh (k.behind (grown p b))) (grown p b)

abbrev pub after : {C : Type 0} → Cutter C → Piece C → List ℕ → Piece C
after k p [] = p
after k p (b ∷ bs) = after k (feed k p b) bs

-- the pieces that are completed on the way
abbrev pub done : {C : Type 0} → Cutter C → Piece C → List ℕ → List (Piece C)
done k p [] = []
done k p (b ∷ bs) = cond (k.whole (grown p b)) (grown p b ∷ done k (feed k p b) bs) (done k (feed k p b) bs)

-- the piece at the end, if it has a byte
abbrev pub unended : {C : Type 0} → C → List ℕ → List (Piece C)
unended c [] = []
unended c (b ∷ bs) = record { context = c; bytes = b ∷ bs } ∷ []

-- all pieces; the last may lack its end
abbrev pub pieces : {C : Type 0} → Cutter C → Piece C → List ℕ → List (Piece C)
pieces k p bs = done k p bs ++ unended (after k p bs).context (after k p bs).bytes

abbrev pub AllCalm : {C : Type 0} → Cutter C → List (Piece C) → Type 0
AllCalm k [] = Unit {0}
AllCalm k (p ∷ ps) = (k.calm p ≡ true) × AllCalm k ps

-- bytes that are an ink: whole pieces, each of them calm, and the context outside again behind them
pub record Inked {C : Type 0} (k : Cutter C) (bs : List ℕ) : Type 0 where
  pub closed : after k (fresh k.outside) bs ≡ fresh k.outside
  pub quiet : AllCalm k (done k (fresh k.outside) bs)

-- the bytes of pieces, one after the other
abbrev pub flat : {C : Type 0} → List (Piece C) → List ℕ
flat [] = []
flat (p ∷ ps) = p.bytes ++ flat ps

-- The laws of every cutter.

-- what is cut after the bytes xs depends on them only by where they lead
abbrev pub Joins : {C : Type 0} → Cutter C → Type 0
Joins {C} k = (p : Piece C) (xs ys : List ℕ) → (after k p (xs ++ ys) ≡ after k (after k p xs) ys) × (pieces k p (xs ++ ys) ≡ done k p xs ++ pieces k (after k p xs) ys)

-- no byte is lost and none is added
abbrev pub KeepsBytes : {C : Type 0} → Cutter C → Type 0
KeepsBytes {C} k = (c : C) (bs : List ℕ) → flat (pieces k (fresh c) bs) ≡ bs

abbrev pub InksJoin : {C : Type 0} → Cutter C → Type 0
InksJoin k = (xs ys : List ℕ) → Inked k xs → Inked k ys → Inked k (xs ++ ys)

-- the bytes before one of their pieces, and those from it on
pub record Split {C : Type 0} (k : Cutter C) (c : C) (bs : List ℕ) (ps : List (Piece C)) (q : Piece C) (rest : List (Piece C)) : Type 0 where
  pub front : List ℕ
  pub back : List ℕ
  pub whole : bs ≡ front ++ back
  pub before : done k (fresh c) front ≡ ps
  pub here : after k (fresh c) front ≡ fresh q.context
  pub onward : pieces k (fresh q.context) back ≡ q ∷ rest

abbrev pub Splits : {C : Type 0} → Cutter C → Type 0
Splits {C} k = (c : C) (bs : List ℕ) (ps : List (Piece C)) (q : Piece C) (rest : List (Piece C)) → pieces k (fresh c) bs ≡ ps ++ q ∷ rest → Split k c bs ps q rest

-- the first piece, and the bytes behind it
pub record Lead {C : Type 0} (k : Cutter C) (p : Piece C) (bs : List ℕ) (q : Piece C) (rest : List (Piece C)) : Type 0 where
  pub back : List ℕ
  pub whole : p.bytes ++ bs ≡ q.bytes ++ back
  pub context : q.context ≡ p.context
  pub onward : pieces k (fresh (k.behind q)) back ≡ rest

abbrev pub Leads : {C : Type 0} → Cutter C → Type 0
Leads {C} k = (p : Piece C) (bs : List ℕ) (q : Piece C) (rest : List (Piece C)) → pieces k p bs ≡ q ∷ rest → Lead k p bs q rest

-- calm pieces between the start and a piece that stands outside are an ink
abbrev pub InksBetween : {C : Type 0} → Cutter C → Type 0
InksBetween {C} k = (bs : List ℕ) (ps : List (Piece C)) (q : Piece C) (rest : List (Piece C)) → pieces k (fresh k.outside) bs ≡ ps ++ q ∷ rest → AllCalm k ps → q.context ≡ k.outside → (s : Split k k.outside bs ps q rest) × Inked k s.front

-- an ink in front: its own pieces, which hold its bytes, and then those of the rest
abbrev pub InksFirst : {C : Type 0} → Cutter C → Type 0
InksFirst k = (ink rest : List ℕ) → Inked k ink → (pieces k (fresh k.outside) (ink ++ rest) ≡ done k (fresh k.outside) ink ++ pieces k (fresh k.outside) rest) × (flat (done k (fresh k.outside) ink) ≡ ink)

pub record Cuts {C : Type 0} (k : Cutter C) : Type 0 where
  pub joins : Joins k
  pub keeps : KeepsBytes k
  pub inks_join : InksJoin k
  pub splits : Splits k
  pub leads : Leads k
  pub between : InksBetween k
  pub first : InksFirst k
