-- The records of sides 1 to n as a list.
use Rattle.std.proofs.Common.{◌≡◌, ℕ, zero, suc, ◌+◌, ◌*◌, ◌≤◌, List, [], ◌++◌, length, take, sym, refl, ap, ◌∙◌, ⊎_elim, mul-le-mul_right, suc-mul, zero-mul, add-one, arith, length-append}
use Rattle.std.proofs.lemmas.List.{take-append-le, take_all, take-take}
use Rattle.std.proofs.lemmas.List.FromFn.{length-map-range_with_len}
use Rattle.std.proofs.lemmas.Bool.{cases_eq}
use Rattle.fold.specs.Words.{Letters, cells}
use Rattle.pages.specs.Splice.{splice}
use Rattle.text.proofs.Splices.{take-splice}
use Rattle.plan.specs.Folds.{Planned}
use Rattle.plan.specs.Records.{record_at, records_of, plan_to}
use Rattle.plan.specs.declared.record.Record.{Record}

pub length-records : (u : Letters) (k p : ℕ) → length (records_of u k p) ≡ cells u
length-records u k p = length-map-range_with_len (record_at u k p) 0 (cells u)

pub next_side : (u : Letters) (n : ℕ) → (n + 1) * cells u ≡ n * cells u + cells u
next_side u n = rw add-one (suc-mul n (cells u))

pub length-plan : (u : Letters) (k n : ℕ) → length (plan_to u k n) ≡ n * cells u
length-plan u k zero = sym (zero-mul (cells u))
length-plan u k (suc n) =
    length-append (plan_to u k n) (records_of u k (suc n))
    ∙ ap (λ x. x + length (records_of u k (suc n))) (length-plan u k n)
    ∙ ap (λ x. n * cells u + x) (length-records u k (suc n))
    ∙ sym (suc-mul n (cells u))

-- the plan of fewer sides is where the plan of more begins
take-plan : (u : Letters) (k n j : ℕ) → j ≤ n → take (j * cells u) (plan_to u k n) ≡ plan_to u k j
take-plan u k zero j h =
    let none : j ≡ 0 = omega arith in
    rw none (ap (λ i. take i []) (zero-mul (cells u)))
take-plan u k (suc n) j h =
    ⊎_elim
    (λ (e : j ≡ suc n). rw e (take_all (suc n * cells u) (plan_to u k (suc n)) (omega (arith, length-plan u k (suc n)))))
    (λ (d : j ≡ suc n → ⊥).
    let le : j ≤ n = omega arith in
    take-append-le (j * cells u) (plan_to u k n) (records_of u k (suc n)) (omega (arith, length-plan u k n, mul-le-mul_right (cells u) le))
    ∙ take-plan u k n j le)
    (cases_eq j (suc n))

-- what a plan of no sides, of fewer sides, and of one side more begins with

pub planned_none : (u : Letters) (k : ℕ) (plan : List Record) → Planned u k 0 plan
planned_none u k plan = rw zero-mul

pub planned_fewer : (u : Letters) (k n j : ℕ) (plan : List Record) → j ≤ n → Planned u k n plan → Planned u k j plan
planned_fewer u k n j plan le e =
    sym (take-take (j * cells u) (n * cells u) plan (mul-le-mul_right (cells u) le)) ∙ ap (take (j * cells u)) e ∙ take-plan u k n j le

pub planned_more : (u : Letters) (k n : ℕ) (plan : List Record) → n * cells u ≤ length plan → Planned u k n plan
    → Planned u k (n + 1) (splice plan (n * cells u) (records_of u k (n + 1)))
planned_more u k n plan fits e =
    let total : n * cells u + length (records_of u k (n + 1)) ≡ (n + 1) * cells u = ap (λ j. n * cells u + j) (length-records u k (n + 1)) ∙ sym (next_side u n) in
    take-splice plan (n * cells u) (records_of u k (n + 1)) ((n + 1) * cells u) total fits
    ∙ ap (λ z. z ++ records_of u k (n + 1)) e
    ∙ rw add-one refl
