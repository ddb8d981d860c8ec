use Rattle.std.proofs.Common.{rules, ◌≡◌, None, sym, subst, inr}
use Rattle.std.proofs.lemmas.Result.{MatchResult-weaker}
use Rattle.pages.specs.Meaning.{Meaning}
use Rattle.layers.specs.Orders.{Laid}
use Rattle.layers.specs.declared.extent.Extent.{Extent}
use Rattle.layers.proofs.layer.Layer.order.Goals as goal

carried : {R : Type 0} (P : R → Extent → Type 0) (r r' : R) (x x' : Extent) → r' ≡ r → x' ≡ x → P r x → P r' x'
carried {R} P r r' x x' e f h = subst (λ (y : Extent). P r' y) (sym f) (subst (λ (s : R). P s x) (sym e) h)

pub returns : goal.returns
returns g c =
    let m : Meaning = g.S.Source.meaning c.args.self.now.below in
    let o = c.ordered.ensures in
    let was = c.in_ok-plan.was in
    let p = c.in_ok-plan.ensures in
    let taken : (g.R.Rule.objects c.args.self.now.rule c.args.order m ≡ None)
    × g.R.Rule.takes c.args.self.now.rule c.args.order m c.in_ok-plan.plan.rule c.in_ok-plan.plan.extent = search rules in
    MatchResult-weaker c.lay.result c.lay.ensures
    (λ _ h. (
      h.0,
      taken.0,
      carried (Laid g.R.Rule.shows (g.R.Rule.takes c.args.self.now.rule c.args.order m) m)
          c.in_ok-plan.plan.rule c.lay.new.self.rule c.in_ok-plan.plan.extent c.lay.new.self.extent h.1 h.2
          (record { taken = taken.1; exact = h.3 }),
    ))
    (λ e h. (h.0, inr (taken.0, record { rule = c.in_ok-plan.plan.rule; extent = c.in_ok-plan.plan.extent; taken = taken.1; barred = h.1 })))
