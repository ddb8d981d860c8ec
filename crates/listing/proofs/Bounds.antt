-- A listing without a fault keeps its bounds.
use Rattle.std.proofs.Common.{◌≡◌, ℕ, ◌+◌, ◌≤◌, true, false, eqb, List, [], ◌∷◌, length, is_some, Some, None, Option, sym, refl, ◌∙◌, subst, ⊎_elim, arith}
use Rattle.std.proofs.lemmas.Bool.{cases_Bool, cond-true, cond-false}
use Rattle.pages.specs.declared.faults.Fault.{Fault}
use Rattle.pages.specs.declared.faults.Refusal.{Refusal}
use Rattle.listing.specs.Pages.{cut, onto}
use Rattle.listing.specs.Places.{Within, after, fault_at, or_fault, refusal, top}
use Rattle.listing.specs.Scans.{Good}
use Rattle.listing.specs.Shapes.{AllPaged, AllWithin}
use Rattle.listing.specs.declared.checked.Checked.{Checked}
use Rattle.listing.specs.declared.places.Place.{Place}
use Rattle.listing.proofs.Refusals.{Sound, sound, within_after}

-- the lines that are left of a page, where the next byte is number c of line l
abbrev Rest : ℕ → ℕ → List (List ℕ) → Type 0
Rest l c [] = Unit {0}
Rest l c (f ∷ m) = (c + length f ≤ 133) × (l + length m ≤ 66) × AllWithin 132 m

-- the pages that are left
abbrev Left : Place → List (List ℕ) → Type 0
Left p [] = Unit {0}
Left p (q ∷ qs) = (p.page + length qs ≤ 4096) × Rest p.line p.column (cut 10 q) × AllPaged qs

new_page : (ls : List (List ℕ)) → Rest 1 1 ls → (length ls ≤ 66) × AllWithin 132 ls
new_page [] r = (omega arith, tt)
new_page (f ∷ m) r = (omega (arith, r.1), (omega (arith, r.0), r.2))

pages_left : (n : ℕ) (ps : List (List ℕ)) → n ≤ 4096 → Left (record { page = n + 1; line = 1; column = 1 }) ps → (n + length ps ≤ 4096) × AllPaged ps
pages_left n [] h k = (omega arith, tt)
pages_left n (q ∷ qs) h k =
    let f = new_page (cut 10 q) k.1 in
    (omega (arith, k.0), (record { lines = f.0; columns = f.1 }, k.2))

-- one byte before the lines that are left
before_line : (b l c : ℕ) (ls : List (List ℕ)) → l ≤ 66 → c ≤ 133 → Rest (l + 1) 1 ls → Rest l c ([] ∷ ls)
before_line b l c [] h k r = (omega arith, omega arith, tt)
before_line b l c (f ∷ m) h k r = (omega arith, omega (arith, r.1), (omega (arith, r.0), r.2))

before_byte : (b l c : ℕ) (ls : List (List ℕ)) → l ≤ 66 → c ≤ 132 → Rest l (c + 1) ls → Rest l c (onto b ls)
before_byte b l c [] h k r = (omega arith, omega arith, tt)
before_byte b l c (f ∷ m) h k r = (omega (arith, r.0), r.1, r.2)

module _ (p : Place) (b : ℕ) (s : Sound p b) (w : Within p) where
  feed_page : (ps : List (List ℕ)) → eqb b 12 ≡ false → eqb b 10 ≡ true → Left (record { page = p.page; line = p.line + 1; column = 1 }) ps → Left p (onto b ps)
  feed_page [] f t k =
      (omega (arith, s.paged), subst (Rest p.line p.column) (sym (cond-true (eqb b 10) _ _ t)) (before_line b p.line p.column [] (s.lined f) w.2 tt), tt)
  feed_page (q ∷ qs) f t k =
      (k.0, subst (Rest p.line p.column) (sym (cond-true (eqb b 10) _ _ t)) (before_line b p.line p.column (cut 10 q) (s.lined f) w.2 k.1), k.2)

  byte_page : (ps : List (List ℕ)) → eqb b 12 ≡ false → eqb b 10 ≡ false → Left (record { page = p.page; line = p.line; column = p.column + 1 }) ps → Left p (onto b ps)
  byte_page [] f g k =
      (omega (arith, s.paged), subst (Rest p.line p.column) (sym (cond-false (eqb b 10) _ _ g)) (before_byte b p.line p.column [] (s.lined f) (s.filled f g) tt), tt)
  byte_page (q ∷ qs) f g k =
      (k.0, subst (Rest p.line p.column) (sym (cond-false (eqb b 10) _ _ g)) (before_byte b p.line p.column (cut 10 q) (s.lined f) (s.filled f g) k.1), k.2)

  one_byte : (bs : List ℕ) → Left (after p b) (cut 12 bs) → Left p (cut 12 (b ∷ bs))
  one_byte bs k =
      ⊎_elim
      (λ t.
      let l = pages_left p.page (cut 12 bs) s.paged (subst (λ q. Left q (cut 12 bs)) (cond-true (eqb b 12) _ _ t) k) in
      subst (Left p) (sym (cond-true (eqb b 12) _ _ t)) (l.0, tt, l.1))
      (λ f. subst (Left p) (sym (cond-false (eqb b 12) _ _ f))
      (⊎_elim
      (λ t. feed_page (cut 12 bs) f t (subst (λ q. Left q (cut 12 bs)) (cond-false (eqb b 12) _ _ f ∙ cond-true (eqb b 10) _ _ t) k))
      (λ g. byte_page (cut 12 bs) f g (subst (λ q. Left q (cut 12 bs)) (cond-false (eqb b 12) _ _ f ∙ cond-false (eqb b 10) _ _ g) k))
      (cases_Bool (eqb b 10))))
      (cases_Bool (eqb b 12))

or_none : (o : Option Refusal) (p : Place) (at : ℕ) (rest : Option Fault) → or_fault o p at rest ≡ None → (o ≡ None) × (rest ≡ None)
or_none None p at rest e = (refl, e)
or_none (Some k) p at rest e = absurd (let z : ◌≡◌ {A = ℕ} 0 1 = cc in omega arith)

left : (bs : List ℕ) (p : Place) (at : ℕ) → Within p → refusal p at bs ≡ None → Left p (cut 12 bs)
left [] p at w e = tt
left (b ∷ bs) p at w e =
    let n = or_none (fault_at p b) p at (refusal (after p b) (at + 1) bs) e in
    let s = sound p b n.0 in
    one_byte p b s w bs (left bs (after p b) (at + 1) (within_after p b w s) n.1)

pub bounds : (file : List ℕ) → refusal top 0 file ≡ None → (length (cut 12 file) ≤ 4096) × AllPaged (cut 12 file)
bounds file e = start (cut 12 file) (left file top 0 (omega arith, omega arith, omega arith) e)
  where
    start : (ps : List (List ℕ)) → Left top ps → (length ps ≤ 4096) × AllPaged ps
    start ps k = let r = pages_left 0 ps (omega arith) k in (omega (arith, r.0), r.1)

pub none_from : (o : Option Fault) → is_some o ≡ false → o ≡ None
none_from None e = refl
none_from (Some f) e = absurd (let z : ◌≡◌ {A = ℕ} 0 1 = cc in omega arith)

pub good : (k : Checked) → Good k.file.now
good k = record { short = k.short; clean = none_from _ k.clean }
