-- The numbers of a signature: its rows, columns and pages, and how many sides so many pages make.
use Rattle.std.proofs.Common.{◌≡◌, ℕ, suc, ◌+◌, ◌-◌, ◌*◌, ◌/◌, ◌%◌, ◌^◌, ◌<◌, ◌≤◌, length, sym, subst, mul-le-mul_right, suc-mul, mul-le-mul_left, mul-one, div-le_self, arith, pow_pos, pow_mono, pow-add}
use Rattle.std.proofs.lemmas.Nat.{mul-le, div-add-mod', div_below, mod_below}
use Rattle.fold.specs.Folding.{page_count}
use Rattle.fold.specs.Signatures.{letters_of}
use Rattle.fold.specs.Words.{Letters, columns_of, count_n, count_w, rows_of}
use Rattle.fold.specs.declared.signature.Signature.{Signature}
use Rattle.fold.proofs.Masks.{count-all, length-letters}
use Rattle.pages.specs.Limits.{max_pages}

-- the rows and columns of a side
pub record Grid (r c : ℕ) : Type 0 where
  pub high : (1 ≤ r) × (r ≤ 16)
  pub wide : (1 ≤ c) × (c ≤ 16)
  pub few : (1 ≤ r * c) × (r * c ≤ 16)

-- the sheets of a signature and the pages that it takes
pub record Takes (k t : ℕ) : Type 0 where
  pub some : 1 ≤ k
  pub most : t ≤ 512
  pub more : 2 * k ≤ t

module _ (s : Signature) where
  abbrev u : Letters
  u = letters_of s

  long : length u ≤ 4
  long = let l = length-letters s.word.len s.word.mask in let k = s.word.lettered in omega arith

  pub grid : Grid (rows_of u) (columns_of u)
  grid =
      let l = count-all u in
      let h = long in
      let a : count_n u ≤ 4 = omega arith in
      let b : count_w u ≤ 4 = omega arith in
      let ab : count_n u + count_w u ≤ 4 = omega arith in
      let r : 2 ^ count_n u ≤ 2 ^ 4 = pow_mono a in
      let c : 2 ^ count_w u ≤ 2 ^ 4 = pow_mono b in
      let d : 2 ^ (count_n u + count_w u) ≤ 2 ^ 4 = pow_mono ab in
      let e : 2 ^ (count_n u + count_w u) ≡ 2 ^ count_n u * 2 ^ count_w u = pow-add 2 (count_n u) (count_w u) in
      let z : 1 ≤ 2 ^ (count_n u + count_w u) = pow_pos (count_n u + count_w u) in
      record { high = (pow_pos (count_n u), r); wide = (pow_pos (count_w u), c); few = (omega arith, omega arith) }

  pub grid_at : (r c : ℕ) → r ≡ rows_of u → c ≡ columns_of u → Grid r c
  grid_at r c e f = subst (λ (n : ℕ). Grid n c) (sym e) (subst (λ (n : ℕ). Grid (rows_of u) n) (sym f) grid)

  pub takes : Takes s.sheets (page_count u s.sheets)
  takes =
      let k = s.thickness in
      let p : 2 ^ length u ≤ 2 ^ 4 = pow_mono long in
      let q : 1 ≤ 2 ^ length u = pow_pos (length u) in
      let m : 2 * s.sheets * 1 ≤ 2 * s.sheets * 2 ^ length u = mul-le-mul_left (2 * s.sheets) q in
      record {
        some = k.0;
        most = mul-le (2 * s.sheets) (2 ^ length u) 32 16 (omega arith) p;
        more = omega (arith, mul-one (2 * s.sheets));
      }

  pub takes_at : (k t : ℕ) → k ≡ s.sheets → t ≡ page_count u s.sheets → Takes k t
  takes_at k t e f = subst (λ (n : ℕ). Takes n t) (sym e) (subst (λ (n : ℕ). Takes s.sheets n) (sym f) takes)

-- no more sides than pages
pub sides_few : (p t s : ℕ) → s ≤ t → p / t * s ≤ p
sides_few p t s h = omega (arith, div-add-mod' p t, mul-le-mul_left (p / t) h)

-- the pages before a side are few
pub before_few : (n k t : ℕ) → n ≤ max_pages → t ≤ 512 → n / k * t ≤ 2097152
before_few n k t a b = mul-le (n / k) t 4096 512 (omega (arith, div-le_self n k)) b

pub row_below : (r c x : ℕ) → 1 ≤ c → x < r * c → x / c + 1 ≤ r
row_below r c x a h = omega (arith, div_below x c r a h)

pub column_below : (c x : ℕ) → 1 ≤ c → x % c + 1 ≤ c
column_below c x a = omega (arith, mod_below x c a)

-- the signature of one of the sides takes its pages from those that there are
pub before_fits : (t k P p : ℕ) → 1 ≤ k → 1 ≤ p → p ≤ P / t * (2 * k) → (p - 1) / 2 / k * t + t ≤ P
before_fits t k P p a b c =
    let h : (p - 1) / 2 < P / t * k = omega (arith, mul-le-mul_left (P / t) a) in
    let d : (p - 1) / 2 / k < P / t = div_below ((p - 1) / 2) k (P / t) a h in
    let e : suc ((p - 1) / 2 / k) * t ≤ P / t * t = mul-le-mul_right t d in
    omega (arith, div-add-mod' P t, suc-mul ((p - 1) / 2 / k) t)
