use Rattle.std.proofs.Common.{◌≡◌, ℕ, suc, ◌*◌, ◌/◌, ◌^◌, ◌≤◌, leb, sym, ap, ◌∙◌, mul_assoc, mul_comm, mul-le-mul_left, pow-suc, arith, pow_pos}
use Rattle.std.proofs.lemmas.Bool.{cond_both}
use Rattle.fold.specs.Walk.{step, Small, WithRoom}
use Rattle.fold.specs.declared.letters.Letter.{Letter}
use Rattle.fold.specs.declared.letters.Letter.TheVariants.{W, N}
use Rattle.fold.specs.declared.walk.CellState.{CellState}

double : (h n : ℕ) → h * 2 ^ suc n ≡ h * 2 * 2 ^ n
double h n = ap (λ x. h * x) (pow-suc 2 n ∙ mul_comm (2 ^ n) 2) ∙ sym (mul_assoc h 2 (2 ^ n))

pub fit : (n : ℕ) (p : CellState) → WithRoom n p → Small p
fit n p f =
    let grow : p.height * 1 ≤ p.height * 2 ^ n = mul-le-mul_left p.height (pow_pos n) in
    (f.1, omega (arith, f.2), omega (arith, f.3), omega (arith, f.4))

pub room_step : (n : ℕ) (l : Letter) (p : CellState) → WithRoom (suc n) p → WithRoom n (step l p)
room_step n W p f =
    let e : p.height * 2 ^ suc n ≡ p.height * 2 * 2 ^ n = double p.height n in
    cond_both (leb p.column (p.columns / 2)) _ _ (WithRoom n)
    (λ _. (omega (arith, f.1), omega (arith, f.0), omega (arith, f.2), omega (arith, f.3), omega (arith, f.4)))
    (λ _. (omega (arith, f.0), omega (arith, f.1), omega (arith, f.2), omega (arith, f.3), omega (arith, f.4)))
room_step n N p f =
    let e : p.height * 2 ^ suc n ≡ p.height * 2 * 2 ^ n = double p.height n in
    cond_both (leb p.row (p.rows / 2)) _ _ (WithRoom n)
    (λ _. (omega (arith, f.1), omega (arith, f.0), omega (arith, f.2), omega (arith, f.3), omega (arith, f.4)))
    (λ _. (omega (arith, f.0), omega (arith, f.1), omega (arith, f.2), omega (arith, f.3), omega (arith, f.4)))
