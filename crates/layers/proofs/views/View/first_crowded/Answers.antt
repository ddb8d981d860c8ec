use Rattle.std.proofs.Common.{rules, tests, ◌<◌, ◌≤◌, length}
use Rattle.std.proofs.lemmas.Iterator.{first_from_Range}
use Rattle.pages.specs.Limits.{max_placements}
use Rattle.layers.specs.Layering.{shown}
use Rattle.layers.proofs.Paging.{first_page}
use Rattle.layers.proofs.views.View.first_crowded.Goals as goal

pub returns : goal.returns
returns g c =
    let m = g.S.Source.meaning c.args.self.now.below.now in
    let show = g.R.Rule.shows c.args.self.now.rule.now m in
    first_page c.args.pages (λ p. length (shown m (show p)) ≤ max_placements) (λ p. max_placements < length (shown m (show p))) c.find.result
    (first_from_Range _ _ _ c.find.result (λ p. max_placements < length (shown m (show p))) (λ p. length (shown m (show p)) ≤ max_placements) c.find.ensures.ran (λ x q k. search (rules, tests)) (λ x q k. search (rules, tests)))
