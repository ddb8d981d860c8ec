-- Every refusal has a number of its own.
use Rattle.std.proofs.Common.{◌≡◌, ℕ, zero, suc, ◌+◌, ◌-◌, ◌<◌, ◌≤◌, List, [], ◌∷◌, length, get_or, sym, refl, ap, ◌∙◌, arith}
use Rattle.pages.specs.declared.faults.Refusal.{Refusal}
use Rattle.pages.specs.declared.faults.Refusal.TheVariants.{NotDsc, OutOfOrder, BadComment, Miscount, Unfinished, BadByte, TooLong, TooMany, NoSuch, BadOrder, Uneven, TooLarge, Crowded, TooFar, ShortBuffer, WrongIndex, Finished, ShortPlan}
use Rattle.pages.specs.Faults.{number, Numbered}

abbrev kinds : List Refusal
kinds = NotDsc ∷ OutOfOrder ∷ BadComment ∷ Miscount ∷ Unfinished ∷ BadByte ∷ TooLong ∷ TooMany ∷ NoSuch ∷ BadOrder ∷ Uneven ∷ TooLarge ∷ Crowded ∷ TooFar ∷ ShortBuffer ∷ WrongIndex ∷ Finished ∷ ShortPlan ∷ []

abbrev kind_of : ℕ → Refusal
kind_of n = get_or kinds (n - 1) NotDsc

-- each kind stands in the list at its number
stands : (k : Refusal) → kind_of (number k) ≡ k
stands k = grind arith

-- the numbers of the list rise by one from n
abbrev Rising : ℕ → List Refusal → Type 0
Rising n [] = Unit {0}
Rising n (k ∷ ks) = (number k ≡ n) × Rising (n + 1) ks

at : (n i : ℕ) (ks : List Refusal) → Rising n ks → i < length ks → number (get_or ks i NotDsc) ≡ n + i
at n i [] r h = absurd (omega arith)
at n zero (k ∷ ks) r h = r.0 ∙ omega arith
at n (suc i) (k ∷ ks) r h = at (n + 1) i ks r.1 (omega arith) ∙ omega arith

each : (n : ℕ) → 1 ≤ n → n ≤ 18 → number (kind_of n) ≡ n
each n l h = at 1 (n - 1) kinds (refl, (refl, (refl, (refl, (refl, (refl, (refl, (refl, (refl, (refl, (refl, (refl, (refl, (refl, (refl, (refl, (refl, (refl, tt)))))))))))))))))) (omega arith) ∙ omega arith

within : (k : Refusal) → (1 ≤ number k) × (number k ≤ 18)
within k = grind arith

pub numbered : Numbered
numbered = record {
  within = within;
  apart = λ j k e. sym (stands j) ∙ ap kind_of e ∙ stands k;
  each = λ n l h. (kind_of n, each n l h);
}
