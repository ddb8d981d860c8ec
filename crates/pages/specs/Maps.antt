-- Maps of the plane, and one map followed by another.
use Rattle.std.specs.Prelude.{◌≡◌, ℕ, zero, suc, ◌+◌, ◌*◌, ◌%◌, ◌≤◌, Bool, cond, ◌&&◌, ℤ, pos, ◌+ℤ◌, ◌*ℤ◌, neg_ℤ, Some, None, Option, int_le, nat_le}
use Rattle.pages.specs.declared.maps.Map.{Map}
use Rattle.pages.specs.Limits.{max_turn, max_ratio, max_vector}

-- a coordinate that a vector may have
abbrev pub near : ℤ → Bool
near v = int_le (neg_ℤ (pos max_vector)) v && int_le v (pos max_vector)

-- the bounds that every map keeps
abbrev pub fits : Map → Bool
fits m = nat_le m.turn max_turn && nat_le 1 m.num && nat_le m.num m.den && nat_le m.den max_ratio && near m.x && near m.y

-- q quarter turns; one sends (x, y) to (−y, x)
abbrev pub turned : ℕ → ℤ × ℤ → ℤ × ℤ
turned zero p = p
turned (suc q) p = (neg_ℤ (turned q p).1, (turned q p).0)

abbrev pub identity : Map
identity = record { turn = 0; num = 1; den = 1; x = pos 0; y = pos 0 }

-- t followed by u; no ratio is cancelled
abbrev pub followed : Map → Map → Map
followed t u = record {
  turn = (t.turn + u.turn) % 4;
  num = t.num * u.num;
  den = t.den * u.den;
  x = pos u.num *ℤ (turned u.turn (t.x, t.y)).0 +ℤ pos t.den *ℤ u.x;
  y = pos u.num *ℤ (turned u.turn (t.x, t.y)).1 +ℤ pos t.den *ℤ u.y;
}

-- what composing answers: nothing where a map leaves the bounds
abbrev pub composed : Map → Map → Option Map
composed t u = cond (fits t && fits u && fits (followed t u)) (Some (followed t u)) None

-- The laws of maps, over all whole numbers.

-- the point (x / over, y / over)
pub record Point : Type 0 where
  pub at : ℤ × ℤ
  pub over : ℕ

abbrev pub times : ℕ → ℤ × ℤ → ℤ × ℤ
times n p = (pos n *ℤ p.0, pos n *ℤ p.1)

abbrev pub moved : ℤ × ℤ → ℤ × ℤ → ℤ × ℤ
moved p v = (p.0 +ℤ v.0, p.1 +ℤ v.1)

-- where a map sends a point p: (num · R^turn p + (x, y)) / den, with the denominators multiplied out
abbrev pub image : Map → Point → Point
image m p = record { at = moved (times m.num (turned m.turn p.at)) (times p.over (m.x, m.y)); over = p.over * m.den }

-- a map with no turn and no scale
abbrev pub shift : ℤ → ℤ → Map
shift x y = record { turn = 0; num = 1; den = 1; x = x; y = y }

pub record MapsCompose : Type 0 where
  -- t followed by u sends every point where u sends what t makes of it
  pub sends : (t u : Map) (p : Point) → image (followed t u) p ≡ image u (image t p)
  pub first : (t : Map) → t.turn ≤ max_turn → followed identity t ≡ t
  pub last : (t : Map) → t.turn ≤ max_turn → followed t identity ≡ t
  pub grouped : (t u w : Map) → followed (followed t u) w ≡ followed t (followed u w)
  -- a leaf at (10, 20), turned once on a page 792 high, halved, and moved by (5, −3)
  pub worked : followed (followed (followed (shift (pos 10) (pos 20)) (record { turn = 1; num = 1; den = 1; x = pos 792; y = pos 0 })) (record { turn = 0; num = 1; den = 2; x = pos 0; y = pos 0 })) (shift (pos 5) (neg_ℤ (pos 3)))
      ≡ record { turn = 1; num = 1; den = 2; x = pos 782; y = pos 4 }
