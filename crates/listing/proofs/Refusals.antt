-- A listing with no fault keeps its bounds.
use Rattle.std.proofs.Common.{◌≡◌, ℕ, ◌≤◌, Bool, true, false, cond, not, eqb, leb, Some, None, Option, refl, arith}
use Rattle.std.proofs.lemmas.Bool.{cond_both, leb-true}
use Rattle.pages.specs.Limits.{max_pages}
use Rattle.pages.specs.declared.faults.Refusal.{Refusal}
use Rattle.pages.specs.declared.faults.Refusal.TheVariants.{BadByte, TooMany, TooLong}
use Rattle.listing.specs.Places.{Within, after, allowed, fault_at, max_columns, max_lines, too_long}
use Rattle.listing.specs.declared.places.Place.{Place}

-- what a byte without a fault says of its place
pub record Sound (p : Place) (b : ℕ) : Type 0 where
  pub paged : p.page ≤ max_pages
  pub lined : eqb b 12 ≡ false → p.line ≤ max_lines
  pub filled : eqb b 12 ≡ false → eqb b 10 ≡ false → p.column ≤ max_columns

no_fault : (k : Refusal) → ◌≡◌ {A = Option Refusal} (Some k) None → ⊥
no_fault k e = let z : ◌≡◌ {A = ℕ} 0 1 = cc in omega arith

from_none : (a g t : Bool) → cond a (cond g (cond t (Some TooLong) None) (Some TooMany)) (Some BadByte) ≡ None → (g ≡ true) × (t ≡ false)
from_none true true true e = absurd (no_fault TooLong e)
from_none true true false e = (refl, refl)
from_none true false t e = absurd (no_fault TooMany e)
from_none false g t e = absurd (no_fault BadByte e)

true_false : true ≡ false → ⊥
true_false e = let z : ◌≡◌ {A = ℕ} 0 1 = cc in omega arith

in_line : (f l : Bool) (x : Bool) → cond f false (cond l x true) ≡ false → f ≡ false → (l ≡ true) × (x ≡ false)
in_line true l x e h = absurd (true_false h)
in_line false true x e h = (refl, e)
in_line false false x e h = absurd (true_false e)

in_column : (n c : Bool) → cond n false (not c) ≡ false → n ≡ false → c ≡ true
in_column true c e h = absurd (true_false h)
in_column false true e h = refl
in_column false false e h = absurd (true_false e)

pub sound : (p : Place) (b : ℕ) → fault_at p b ≡ None → Sound p b
sound p b e =
    let n = from_none (allowed b) (leb p.page max_pages) (too_long p b) e in
    let l = in_line (eqb b 12) (leb p.line max_lines) (cond (eqb b 10) false (not (leb p.column max_columns))) n.1 in
    record {
      paged = leb-true _ _ n.0;
      lined = λ f. leb-true _ _ (l f).0;
      filled = λ f g. leb-true _ _ (in_column (eqb b 10) (leb p.column max_columns) (l f).1 g);
    }

pub within_after : (p : Place) (b : ℕ) → Within p → Sound p b → Within (after p b)
within_after p b w s =
    cond_both (eqb b 12) _ _ Within (λ _. (omega (arith, s.paged), omega arith, omega arith))
    (λ f. cond_both (eqb b 10) _ _ Within (λ _. (omega (arith, s.paged), omega (arith, s.lined f), omega arith))
    (λ g. (omega (arith, s.paged), omega (arith, s.lined f), omega (arith, s.filled f g))))
