use Rattle.std.proofs.Common.{rules, tests}
use Rattle.std.proofs.lemmas.Iterator.Consumers.{YieldsList-from_first}
use Rattle.std.proofs.lemmas.Iterator.Search.{all_from_yields_List}
use Rattle.layers.specs.Layering.{part_follows}
use Rattle.layers.proofs.views.View.near.Goals as goal

pub returns : goal.returns
returns g c =
    let m = g.S.Source.meaning c.args.self.now.below.now in
    all_from_yields_List (part_follows m) _ _ c.all.result c.all.ensures.ran
    (YieldsList-from_first (λ x. x) (λ s. s) (g.R.Rule.shows c.args.self.now.rule.now m c.args.page) c.parts.ensures.all) (λ x b q k. search (rules, tests))
