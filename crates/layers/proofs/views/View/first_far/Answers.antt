use Rattle.std.proofs.Common.{rules, tests, ◌≡◌, true, false}
use Rattle.std.proofs.lemmas.Iterator.{first_from_Range}
use Rattle.layers.specs.Layering.{parts_follow}
use Rattle.layers.proofs.Paging.{first_page}
use Rattle.layers.proofs.views.View.first_far.Goals as goal

pub returns : goal.returns
returns g c =
    let m = g.S.Source.meaning c.args.self.now.below.now in
    let show = g.R.Rule.shows c.args.self.now.rule.now m in
    first_page c.args.pages (λ p. parts_follow m (show p) ≡ true) (λ p. parts_follow m (show p) ≡ false) c.find.result
    (first_from_Range _ _ _ c.find.result (λ p. parts_follow m (show p) ≡ false) (λ p. parts_follow m (show p) ≡ true) c.find.ensures.ran (λ x q k. search (rules, tests)) (λ x q k. search (rules, tests)))
