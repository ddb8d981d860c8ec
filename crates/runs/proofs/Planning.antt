-- The plan of a book as its sides are printed.
use Rattle.std.proofs.Common.{◌≡◌, ℕ, zero, suc, ◌+◌, ◌*◌, ◌<◌, ◌≤◌, max, List, [], ◌++◌, length, drop, sym, refl, ap, ◌∙◌, ⊎_elim, append_assoc, suc-mul, zero-mul, add-one, arith, length-append}
use Rattle.std.proofs.lemmas.List.{take_at, drop_at, drop-drop, append-nil}
use Rattle.std.proofs.lemmas.Bool.{cases_lt, cases_eq}
use Rattle.pages.specs.Splice.{splice}
use Rattle.plan.specs.declared.record.Record.{Record}
use Rattle.runs.specs.Editions.{Edition, plan_of}

pub max-left : (a b : ℕ) → b ≤ a → max a b ≡ a
max-left a b h = omega arith

pub max-right : (a b : ℕ) → a ≤ b → max a b ≡ b
max-right a b h = omega arith

-- a list written over what follows a front
splice_after : {X : Type 0} (a d x : List X) (at : ℕ) → length a ≡ at → splice (a ++ d) at x ≡ a ++ (x ++ drop (length x) d)
unfolding splice
splice_after a d x at e =
    ap (λ z. z ++ (x ++ drop (at + length x) (a ++ d))) (take_at a d at e)
    ∙ ap (λ z. a ++ (x ++ z)) (sym (drop-drop (length x) at (a ++ d)) ∙ ap (drop (length x)) (drop_at a d at e))

-- over itself
splice_over : {X : Type 0} (a x d : List X) (at : ℕ) → length a ≡ at → splice (a ++ (x ++ d)) at x ≡ a ++ (x ++ d)
splice_over a x d at e = splice_after a (x ++ d) x at e ∙ ap (λ z. a ++ (x ++ z)) (drop_at x d (length x) refl)

module _ (k : Edition) (even : (p : ℕ) → length (k.records p) ≡ k.per) where
  pub length-plan : (n : ℕ) → length (plan_of k n) ≡ n * k.per
  length-plan zero = sym (zero-mul k.per)
  length-plan (suc n) =
      length-append (plan_of k n) (k.records (suc n))
      ∙ ap (λ x. x + length (k.records (suc n))) (length-plan n)
      ∙ ap (λ x. n * k.per + x) (even (suc n))
      ∙ sym (suc-mul n k.per)

  plan_next : (n : ℕ) → plan_of k (n + 1) ≡ plan_of k n ++ k.records (n + 1)
  plan_next n = rw add-one refl

  -- a plan begins with that of fewer sides
  pub plan_front : (n r : ℕ) → n ≤ r → (rest : List Record) × (plan_of k r ≡ plan_of k n ++ rest)
  plan_front n zero h = let e : n ≡ 0 = omega arith in ([], ap (plan_of k) (sym e) ∙ sym (append-nil (plan_of k n)))
  plan_front n (suc r) h =
      ⊎_elim
      (λ (e : n ≡ suc r). ([], ap (plan_of k) (sym e) ∙ sym (append-nil (plan_of k n))))
      (λ (d : n ≡ suc r → ⊥).
      let f = plan_front n r (omega arith) in
      (f.0 ++ k.records (suc r), ap (λ z. z ++ k.records (suc r)) f.1 ∙ append_assoc (plan_of k n) f.0 (k.records (suc r))))
      (cases_eq n (suc r))

  -- the records of the side after n are written where n sides stand printed and r once did
  pub plan_printed : (n r : ℕ) (plan : List Record) → n ≤ r
      → splice (plan_of k r ++ drop (r * k.per) plan) (n * k.per) (k.records (n + 1)) ≡ plan_of k (max r (n + 1)) ++ drop (max r (n + 1) * k.per) plan
  plan_printed n r plan h =
      ⊎_elim
      (λ (l : n < r).
      let f = plan_front (n + 1) r (omega arith) in
      let whole : plan_of k r ++ drop (r * k.per) plan ≡ plan_of k n ++ (k.records (n + 1) ++ (f.0 ++ drop (r * k.per) plan)) =
      ap (λ z. z ++ drop (r * k.per) plan) (f.1 ∙ ap (λ z. z ++ f.0) (plan_next n) ∙ append_assoc (plan_of k n) (k.records (n + 1)) f.0)
      ∙ append_assoc (plan_of k n) (k.records (n + 1) ++ f.0) (drop (r * k.per) plan)
      ∙ ap (λ z. plan_of k n ++ z) (append_assoc (k.records (n + 1)) f.0 (drop (r * k.per) plan)) in
      ap (λ z. splice z (n * k.per) (k.records (n + 1))) whole
      ∙ splice_over (plan_of k n) (k.records (n + 1)) (f.0 ++ drop (r * k.per) plan) (n * k.per) (length-plan n)
      ∙ sym whole
      ∙ ap (λ z. plan_of k z ++ drop (z * k.per) plan) (sym (max-left r (n + 1) (omega arith))))
      (λ (l : r ≤ n).
      let e : r ≡ n = omega arith in
      ap (λ z. splice (plan_of k z ++ drop (z * k.per) plan) (n * k.per) (k.records (n + 1))) e
      ∙ splice_after (plan_of k n) (drop (n * k.per) plan) (k.records (n + 1)) (n * k.per) (length-plan n)
      ∙ sym (append_assoc (plan_of k n) (k.records (n + 1)) (drop (length (k.records (n + 1))) (drop (n * k.per) plan)))
      ∙ ap (λ z. z ++ drop (length (k.records (n + 1))) (drop (n * k.per) plan)) (sym (plan_next n))
      ∙ ap (λ z. plan_of k (n + 1) ++ z) (drop-drop (length (k.records (n + 1))) (n * k.per) plan ∙ ap (λ z. drop z plan) (ap (λ z. n * k.per + z) (even (n + 1)) ∙ rw add-one (sym (suc-mul n k.per))))
      ∙ ap (λ z. plan_of k z ++ drop (z * k.per) plan) (sym (max-right r (n + 1) (omega arith))))
      (cases_lt n r)
