use Rattle.std.proofs.Common.{rules, tests, length, sym, ◌∙◌}
use Rattle.std.proofs.lemmas.Iterator.{YieldsList-from_map}
use Rattle.std.proofs.lemmas.Iterator.Consumers.{YieldsList-from_first, sum_by_from_yields_List}
use Rattle.std.proofs.lemmas.List.Concat.{length-flat_map}
use Rattle.layers.specs.Layering.{part_shown}
use Rattle.layers.proofs.views.View.count.Goals as goal

pub returns : goal.returns
returns g c =
    let m = g.S.Source.meaning c.args.self.now.below.now in
    let xs = g.R.Rule.shows c.args.self.now.rule.now m c.args.page in
    sum_by_from_yields_List (λ x. length (part_shown m x)) xs c.map.result c.sum.result c.sum.ensures.ran
    (YieldsList-from_map {s = c.map.result} _ (λ x. length (part_shown m x)) (YieldsList-from_first (λ x. x) (λ s. s) xs (c.map.ensures.source ∙ c.parts.ensures.all)) c.map.ensures.closure (λ x r q k. search (rules, tests)))
    ∙ sym (length-flat_map (part_shown m) xs)
