-- The laws of maps.
use Rattle.std.proofs.Common.{◌≡◌, ℕ, zero, suc, ◌+◌, ◌*◌, ◌/◌, ◌%◌, ◌≤◌, ℤ, pos, negsuc, ◌+ℤ◌, ◌*ℤ◌, neg_ℤ, sym, refl, ap, ◌∙◌, mul_assoc, mul_comm, one-mul, mul-zero, zero-add, mul-one, arith}
use Rattle.std.proofs.lemmas.Int.{ints}
use lib.IntN.{+ℤ_assoc, +ℤ_idl, +ℤ_idr, neg_ℤ-neg_ℤ, neg_ℤ-+ℤ, zero-*ℤ, *ℤ-zero, suc_ℤ-*ℤ}
use Rattle.pages.specs.Limits.{max_turn}
use Rattle.pages.specs.Maps.{turned, identity, followed, Point, times, moved, image, MapsCompose}
use Rattle.pages.specs.declared.maps.Map.{Map}

-- whole numbers times a natural number
times_neg : (n : ℕ) (a : ℤ) → pos n *ℤ neg_ℤ a ≡ neg_ℤ (pos n *ℤ a)
times_neg n (pos zero) = ap pos (mul-zero n) ∙ sym (ap (λ (k : ℕ). neg_ℤ (pos k)) (mul-zero n))
times_neg n (pos (suc k)) = refl
times_neg n (negsuc k) = sym (neg_ℤ-neg_ℤ (pos (n * suc k)))

times_times : (m n : ℕ) (a : ℤ) → pos m *ℤ (pos n *ℤ a) ≡ pos (m * n) *ℤ a
times_times m n (pos k) = ap pos (sym (mul_assoc m n k))
times_times m n (negsuc k) = times_neg m (pos (n * suc k)) ∙ ap (λ (j : ℕ). neg_ℤ (pos j)) (sym (mul_assoc m n (suc k)))

swap_middle : (a b c d : ℤ) → (a +ℤ b) +ℤ (c +ℤ d) ≡ (a +ℤ c) +ℤ (b +ℤ d)
swap_middle a b c d = omega (arith, ints)

times_add : (n : ℕ) (a b : ℤ) → pos n *ℤ (a +ℤ b) ≡ pos n *ℤ a +ℤ pos n *ℤ b
times_add zero a b = zero-*ℤ (a +ℤ b) ∙ sym (ap (λ (z : ℤ). z +ℤ pos 0 *ℤ b) (zero-*ℤ a) ∙ ap (λ (z : ℤ). pos 0 +ℤ z) (zero-*ℤ b))
times_add (suc n) a b = omega (arith, ints, suc_ℤ-*ℤ (pos n) (a +ℤ b), suc_ℤ-*ℤ (pos n) a, suc_ℤ-*ℤ (pos n) b, times_add n a b)

times_one : (a : ℤ) → pos 1 *ℤ a ≡ a
times_one a = omega (arith, ints)

-- the same by pairs
both : (a b : ℤ) (p : ℤ × ℤ) → a ≡ p.0 → b ≡ p.1 → ◌≡◌ {A = ℤ × ℤ} (a, b) p
both a b p e f = ap (λ (z : ℤ). (z, b)) e ∙ ap (λ (z : ℤ). (p.0, z)) f

pair_times : (m n : ℕ) (p : ℤ × ℤ) → times m (times n p) ≡ times (m * n) p
pair_times m n p = both _ _ (times (m * n) p) (times_times m n p.0) (times_times m n p.1)

pair_add : (n : ℕ) (p r : ℤ × ℤ) → times n (moved p r) ≡ moved (times n p) (times n r)
pair_add n p r = both _ _ (moved (times n p) (times n r)) (times_add n p.0 r.0) (times_add n p.1 r.1)

pair_assoc : (a b c : ℤ × ℤ) → moved (moved a b) c ≡ moved a (moved b c)
pair_assoc a b c = both _ _ (moved a (moved b c)) (+ℤ_assoc a.0 b.0 c.0) (+ℤ_assoc a.1 b.1 c.1)

-- turns
turned_times : (q n : ℕ) (p : ℤ × ℤ) → turned q (times n p) ≡ times n (turned q p)
turned_times zero n p = refl
turned_times (suc q) n p =
    let h = turned_times q n p in
    both _ _ (times n (turned (suc q) p)) (ap (λ (r : ℤ × ℤ). neg_ℤ r.1) h ∙ sym (times_neg n (turned q p).1)) (ap (λ (r : ℤ × ℤ). r.0) h)

turned_moved : (q : ℕ) (p r : ℤ × ℤ) → turned q (moved p r) ≡ moved (turned q p) (turned q r)
turned_moved zero p r = refl
turned_moved (suc q) p r =
    let h = turned_moved q p r in
    both _ _ (moved (turned (suc q) p) (turned (suc q) r)) (ap (λ (s : ℤ × ℤ). neg_ℤ s.1) h ∙ neg_ℤ-+ℤ (turned q p).1 (turned q r).1) (ap (λ (s : ℤ × ℤ). s.0) h)

turned_add : (m n : ℕ) (p : ℤ × ℤ) → turned (m + n) p ≡ turned m (turned n p)
turned_add zero n p = ap (λ (k : ℕ). turned k p) (zero-add n)
turned_add (suc m) n p =
    let s : suc m + n ≡ suc (m + n) = omega arith in
    ap (λ (k : ℕ). turned k p) s ∙ ap (λ (r : ℤ × ℤ). (neg_ℤ r.1, r.0)) (turned_add m n p)

four : (p : ℤ × ℤ) → turned 4 p ≡ p
four p = both _ _ p (neg_ℤ-neg_ℤ p.0) (neg_ℤ-neg_ℤ p.1)

fours : (k r : ℕ) (p : ℤ × ℤ) → turned (4 * k + r) p ≡ turned r p
fours zero r p = ap (λ (j : ℕ). turned j p) (let e : 4 * 0 + r ≡ r = omega arith in e)
fours (suc k) r p =
    let e : 4 * suc k + r ≡ 4 + (4 * k + r) = omega arith in
    ap (λ (j : ℕ). turned j p) e ∙ turned_add 4 (4 * k + r) p ∙ four (turned (4 * k + r) p) ∙ fours k r p

turned_mod : (q : ℕ) (p : ℤ × ℤ) → turned (q % 4) p ≡ turned q p
turned_mod q p = sym (fours (q / 4) (q % 4) p) ∙ ap (λ (k : ℕ). turned k p) (let e : 4 * (q / 4) + q % 4 ≡ q = omega arith in e)

turned_both : (m n : ℕ) (p : ℤ × ℤ) → turned ((m + n) % 4) p ≡ turned n (turned m p)
turned_both m n p = turned_mod (m + n) p ∙ ap (λ (k : ℕ). turned k p) (let e : m + n ≡ n + m = omega arith in e) ∙ turned_add n m p

-- no turn moves the origin
origin : (q : ℕ) → turned q (pos 0, pos 0) ≡ (pos 0, pos 0)
origin zero = refl
origin (suc q) = ap (λ (r : ℤ × ℤ). (neg_ℤ r.1, r.0)) (origin q)

module _ (t u : Map) (p : Point) where
  abbrev tail_of : ℤ × ℤ
  tail_of = times (p.over * t.den) (u.x, u.y)

  sends_at : (image (followed t u) p).at ≡ (image u (image t p)).at
  sends_at =
      let P = turned t.turn p.at in
      let v : ℤ × ℤ = (t.x, t.y) in
      let n = t.num in
      let n' = u.num in
      let e = p.over in
      let R : ℤ × ℤ → ℤ × ℤ = turned u.turn in
      let left : times e (moved (times n' (R v)) (times t.den (u.x, u.y))) ≡ moved (times (e * n') (R v)) tail_of
      = pair_add e (times n' (R v)) (times t.den (u.x, u.y)) ∙ ap (λ (a : ℤ × ℤ). moved a (times e (times t.den (u.x, u.y)))) (pair_times e n' (R v)) ∙ ap (λ (a : ℤ × ℤ). moved (times (e * n') (R v)) a) (pair_times e t.den (u.x, u.y)) in
      let right : times n' (R (moved (times n P) (times e v))) ≡ moved (times (n * n') (R P)) (times (e * n') (R v))
      = ap (times n') (turned_moved u.turn (times n P) (times e v) ∙ ap (λ (a : ℤ × ℤ). moved a (R (times e v))) (turned_times u.turn n P) ∙ ap (λ (a : ℤ × ℤ). moved (times n (R P)) a) (turned_times u.turn e v))
      ∙ pair_add n' (times n (R P)) (times e (R v))
      ∙ ap (λ (a : ℤ × ℤ). moved a (times n' (times e (R v)))) (pair_times n' n (R P) ∙ ap (λ (k : ℕ). times k (R P)) (mul_comm n' n))
      ∙ ap (λ (a : ℤ × ℤ). moved (times (n * n') (R P)) a) (pair_times n' e (R v) ∙ ap (λ (k : ℕ). times k (R v)) (mul_comm n' e)) in
      ap (λ (a : ℤ × ℤ). moved (times (n * n') a) (times e (moved (times n' (R v)) (times t.den (u.x, u.y))))) (turned_both t.turn u.turn p.at)
      ∙ ap (λ (a : ℤ × ℤ). moved (times (n * n') (R P)) a) left
      ∙ sym (pair_assoc (times (n * n') (R P)) (times (e * n') (R v)) tail_of)
      ∙ ap (λ (a : ℤ × ℤ). moved a tail_of) (sym right)

  pub sends : image (followed t u) p ≡ image u (image t p)
  sends =
      ap (λ (a : ℤ × ℤ). record { at = a; over = p.over * (t.den * u.den) }) sends_at
      ∙ ap (λ (k : ℕ). record { at = (image u (image t p)).at; over = k }) (sym (mul_assoc p.over t.den u.den))

-- a map is its five numbers
abbrev made : ℕ → ℕ → ℕ → ℤ × ℤ → Map
made q n d v = record { turn = q; num = n; den = d; x = v.0; y = v.1 }

same_map : (q n d : ℕ) (v : ℤ × ℤ) (m : Map) → q ≡ m.turn → n ≡ m.num → d ≡ m.den → v ≡ (m.x, m.y) → made q n d v ≡ m
same_map q n d v m a b c e =
    ap (λ (k : ℕ). made k n d v) a ∙ ap (λ (k : ℕ). made m.turn k d v) b ∙ ap (λ (k : ℕ). made m.turn m.num k v) c ∙ ap (made m.turn m.num m.den) e

first : (t : Map) → t.turn ≤ max_turn → followed identity t ≡ t
first t h =
    let vector : moved (times t.num (turned t.turn (pos 0, pos 0))) (times 1 (t.x, t.y)) ≡ (t.x, t.y)
    = ap (λ (a : ℤ × ℤ). moved (times t.num a) (times 1 (t.x, t.y))) (origin t.turn)
    ∙ both _ _ (t.x, t.y)
    (ap (λ (z : ℤ). z +ℤ pos 1 *ℤ t.x) (*ℤ-zero (pos t.num)) ∙ +ℤ_idl (pos 1 *ℤ t.x) ∙ times_one t.x)
    (ap (λ (z : ℤ). z +ℤ pos 1 *ℤ t.y) (*ℤ-zero (pos t.num)) ∙ +ℤ_idl (pos 1 *ℤ t.y) ∙ times_one t.y) in
    same_map ((0 + t.turn) % 4) (1 * t.num) (1 * t.den) _ t (omega arith) (one-mul t.num) (one-mul t.den) vector

last : (t : Map) → t.turn ≤ max_turn → followed t identity ≡ t
last t h =
    same_map ((t.turn + 0) % 4) (t.num * 1) (t.den * 1) (moved (times 1 (t.x, t.y)) (times t.den (pos 0, pos 0))) t (omega arith) (mul-one t.num) (mul-one t.den)
    (both _ _ (t.x, t.y)
    (ap (λ (z : ℤ). pos 1 *ℤ t.x +ℤ z) (*ℤ-zero (pos t.den)) ∙ +ℤ_idr (pos 1 *ℤ t.x) ∙ times_one t.x)
    (ap (λ (z : ℤ). pos 1 *ℤ t.y +ℤ z) (*ℤ-zero (pos t.den)) ∙ +ℤ_idr (pos 1 *ℤ t.y) ∙ times_one t.y))

-- the vector of a map is where its origin goes: grouping is the law of points at t's own vector
grouped : (t u w : Map) → followed (followed t u) w ≡ followed t (followed u w)
grouped t u w =
    same_map _ _ _ _ (followed t (followed u w)) (omega arith) (mul_assoc t.num u.num w.num) (mul_assoc t.den u.den w.den)
    (ap (λ (p : Point). p.at) (sym (sends u w (record { at = (t.x, t.y); over = t.den }))))

pub maps_compose : MapsCompose
maps_compose = record { sends = sends; first = first; last = last; grouped = grouped; worked = refl }
