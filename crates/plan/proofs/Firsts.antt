-- The first record that passes a test.
use Rattle.std.proofs.Common.{◌≡◌, ℕ, zero, suc, ◌+◌, ◌<◌, ◌≤◌, Bool, true, false, cond, List, [], ◌∷◌, ◌++◌, map, Some, None, refl, ap, ◌∙◌, ⊎_elim, arith}
use Rattle.std.specs.List.{range_with_len}
use Rattle.std.proofs.lemmas.Bool.{cases_eq, cond-true, cond-false}
use Rattle.plan.specs.Folds.{first}
use Rattle.plan.specs.declared.record.Record.{Record}

module _ (test : Record → Bool) where
  pub first_front : (xs ys : List Record) (r : Record) → first test xs ≡ Some r → first test (xs ++ ys) ≡ Some r
  first_front [] ys r h = absurd (let z : ◌≡◌ {A = ℕ} 0 1 = cc in omega arith)
  first_front (x ∷ xs) ys r h =
      elim (test x) as (λ b. cond b (Some x) (first test xs) ≡ Some r → cond b (Some x) (first test (xs ++ ys)) ≡ Some r)
      [ true ↦ λ q. q | false ↦ λ q. first_front xs ys r q ] h

  pub first_back : (xs ys : List Record) → first test xs ≡ None → first test (xs ++ ys) ≡ first test ys
  first_back [] ys h = refl
  first_back (x ∷ xs) ys h =
      elim (test x) as (λ b. cond b (Some x) (first test xs) ≡ None → cond b (Some x) (first test (xs ++ ys)) ≡ first test ys)
      [ true ↦ λ q. absurd (let z : ◌≡◌ {A = ℕ} 0 1 = cc q in omega arith) | false ↦ λ q. first_back xs ys q ] h

  -- among records made from a function of the index
  module _ (f : ℕ → Record) where
    pub first_none : (a n : ℕ) → ((x : ℕ) → a ≤ x → x < a + n → test (f x) ≡ false) → first test (map f (range_with_len a n)) ≡ None
    first_none a zero h = refl
    first_none a (suc n) h =
        cond-false (test (f a)) (Some (f a)) (first test (map f (range_with_len (a + 1) n))) (h a (omega arith) (omega arith))
        ∙ first_none (a + 1) n (λ x l r. h x (omega arith) (omega arith))

    pub first_some : (a n x : ℕ) → a ≤ x → x < a + n → test (f x) ≡ true → ((y : ℕ) → y < x → test (f y) ≡ false)
        → first test (map f (range_with_len a n)) ≡ Some (f x)
    first_some a zero x l r t o = absurd (omega arith)
    first_some a (suc n) x l r t o =
        ⊎_elim
        (λ (e : a ≡ x). cond-true (test (f a)) (Some (f a)) (first test (map f (range_with_len (a + 1) n))) (ap (λ z. test (f z)) e ∙ t) ∙ ap (λ z. Some (f z)) e)
        (λ (d : a ≡ x → ⊥). cond-false (test (f a)) (Some (f a)) (first test (map f (range_with_len (a + 1) n))) (o a (omega arith))
        ∙ first_some (a + 1) n x (omega arith) (omega arith) t o)
        (cases_eq a x)
