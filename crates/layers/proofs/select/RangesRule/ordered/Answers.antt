use Rattle.std.proofs.Common.{rules, ◌≡◌, ℕ, ◌+◌, ◌<◌, ◌≤◌, false, List, [], ◌∷◌, ◌++◌, length, take, Some, None, Ok, Err, Option, MatchOption, sym, ap, subst, ◌∙◌, inl, inr, arith, length-append}
use Rattle.std.specs.Option.{ok_or}
use Rattle.pages.specs.Meaning.{Meaning}
use Rattle.pages.specs.declared.faults.Refusal.TheVariants.{TooMany}
use Rattle.layers.specs.Orders.{objection}
use Rattle.layers.specs.Selecting.{all_pages_of, pages_of, half_blank, max_ranges, missing}
use Rattle.layers.specs.declared.parts.Objection.{Objection}
use Rattle.layers.specs.declared.ranges.Range.{Range}
use Rattle.layers.proofs.Selecting.{total_added, old_missing, new_missing, too_many, nothing, taken}
use Rattle.layers.proofs.select.RangesRule.ordered.Goals as goal

-- so many ranges, and one more
added : (rs : List Range) (r : Range) → length (rs ++ r ∷ []) ≡ length rs + 1
added rs r = omega (arith, length-append rs (r ∷ []))

moved_to : (xs ys : List Range) (n : ℕ) (o : Option ℕ) → xs ≡ ys → o ≡ missing xs n → missing ys n ≡ o
moved_to xs ys n o e h = sym (h ∙ ap (λ (zs : List Range). missing zs n) e)

pub returns-in-Some : goal.returns-in-Some
returns-in-Some g c =
    let rs : List Range = take c.args.self.now.count c.args.self.now.given in
    let m : Meaning = g.S.Source.meaning c.args.below.now in
    let w : half_blank c.args.order ≡ false = sym c.half_blank.ensures ∙ c.if-half_blank.false in
    old_missing rs c.args.order m c.of-pages.result.pages c.of-pages.ensures.1 w c.in-Some.page
    (moved_to c.ranges-2.result.now rs c.of-pages.result.pages (Some c.in-Some.page) c.ranges-2.ensures.all c.in-Some.ensures)
    ∙ ap (λ (o : Objection). Some o) (sym c.new-in-Some.ensures)

pub returns-in-Some-first_missing : goal.returns-in-Some-first_missing
returns-in-Some-first_missing g c =
    let rs : List Range = take c.args.self.now.count c.args.self.now.given in
    let m : Meaning = g.S.Source.meaning c.args.below.now in
    let w : half_blank c.args.order ≡ false = sym c.half_blank.ensures ∙ c.if-half_blank.false in
    new_missing rs c.args.order m c.of-pages.result.pages c.of-pages.ensures.1 w
    (moved_to c.ranges-2.result.now rs c.of-pages.result.pages None c.ranges-2.ensures.all c.in_default.ensures)
    c.in-Some-first_missing.page (sym c.in-Some-first_missing.ensures)
    ∙ ap (λ (o : Objection). Some o) (sym c.new-in-Some-first_missing.ensures)

-- the pages of all ranges, the new one with them
totals : (xs rs : List Range) (r : Range) (t n : ℕ) → xs ≡ rs → t ≡ length (all_pages_of xs) → n ≡ length (pages_of r) → length (all_pages_of (rs ++ r ∷ [])) ≡ t + n
totals xs rs r t n e f h = omega (arith, total_added rs r, ap (λ (zs : List Range). length (all_pages_of zs)) e)

pub returns-then-pages : goal.returns-then-pages
returns-then-pages g c =
    let rs : List Range = take c.args.self.now.count c.args.self.now.given in
    let m : Meaning = g.S.Source.meaning c.args.below.now in
    let w : half_blank c.args.order ≡ false = sym c.half_blank.ensures ∙ c.if-half_blank.false in
    let t = totals c.ranges-3.result.now rs c.args.order c.total.result c.span.result c.ranges-3.ensures.all c.total.ensures c.span.ensures.all in
    let s = c.saturating_add-pages.ensures in
    too_many rs c.args.order m c.of-pages.result.pages c.of-pages.ensures.1 w
    (moved_to c.ranges-2.result.now rs c.of-pages.result.pages None c.ranges-2.ensures.all c.in_default.ensures)
    (sym c.in_default-first_missing.ensures) (inr (omega (arith, c.if-pages.true)))
    ∙ ap (λ (o : Objection). Some o) (sym c.new-then-pages.ensures)

refused : {T E : Type 0} (o : Option T) (e x : E) (P : Type 0) (Q : T → Type 0) → ok_or o e ≡ Err x → MatchOption o P Q → P × (x ≡ e)
refused None e x P Q h m = (m, cc)
refused (Some t) e x P Q h m = let z : ◌≡◌ {A = ℕ} 0 1 = cc in absurd (omega arith)

given : {T E : Type 0} (o : Option T) (e : E) (t : T) (P : Type 0) (Q : T → Type 0) → ok_or o e ≡ Ok t → MatchOption o P Q → Q t
given None e t P Q h m = let z : ◌≡◌ {A = ℕ} 0 1 = cc in absurd (omega arith)
given (Some u) e t P Q h m = let k : u ≡ t = cc in subst Q k m

pub returns-in_err-rule : goal.returns-in_err-rule
returns-in_err-rule g c =
    let rs : List Range = take c.args.self.now.count c.args.self.now.given in
    let m : Meaning = g.S.Source.meaning c.args.below.now in
    let w : half_blank c.args.order ≡ false = sym c.half_blank.ensures ∙ c.if-half_blank.false in
    let a = added rs c.args.order in
    let n = refused c.added.result c.new-2.result c.in_err-rule.field-0.0 (max_ranges ≤ length rs) _ (sym c.ok_or.ensures.value ∙ c.in_err-rule.was) c.added.ensures in
    let f : max_ranges ≤ length rs = n.0 in
    let o = too_many rs c.args.order m c.of-pages.result.pages c.of-pages.ensures.1 w
    (moved_to c.ranges-2.result.now rs c.of-pages.result.pages None c.ranges-2.ensures.all c.in_default.ensures)
    (sym c.in_default-first_missing.ensures) (inl (omega arith)) in
    let e : c.in_err-rule.field-0.0 ≡ objection TooMany 0 = n.1 ∙ c.new-2.ensures in
    search rules

pub returns : goal.returns
returns g c =
    let rs : List Range = take c.args.self.now.count c.args.self.now.given in
    let m : Meaning = g.S.Source.meaning c.args.below.now in
    let w : half_blank c.args.order ≡ false = sym c.half_blank.ensures ∙ c.if-half_blank.false in
    let t = totals c.ranges-3.result.now rs c.args.order c.total.result c.span.result c.ranges-3.ensures.all c.total.ensures c.span.ensures.all in
    let s = c.saturating_add-pages.ensures in
    let a = added rs c.args.order in
    let was = c.in_ok-rule.was in
    let r : (length rs < max_ranges) × (take c.in_ok-rule.rule.count c.in_ok-rule.rule.given ≡ rs ++ c.args.order ∷ []) =
    given c.added.result c.new-2.result c.in_ok-rule.rule (max_ranges ≤ length rs) _ (sym c.ok_or.ensures.value ∙ c.in_ok-rule.was) c.added.ensures in
    let old = moved_to c.ranges-2.result.now rs c.of-pages.result.pages None c.ranges-2.ensures.all c.in_default.ensures in
    let new = sym c.in_default-first_missing.ensures in (
      nothing rs c.args.order m c.of-pages.result.pages c.of-pages.ensures.1 w old new (omega (arith, r.0)) (omega (arith, c.if-pages.false)),
      taken rs c.args.order m c.of-pages.result.pages c.of-pages.ensures.1 w old new (take c.in_ok-rule.rule.count c.in_ok-rule.rule.given) _ r.1 c.of-pages.ensures.0 (omega (arith, c.if-pages.false)),
    )
