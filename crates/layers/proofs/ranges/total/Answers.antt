use Rattle.std.proofs.Common.{rules, tests, length, sym, ◌∙◌}
use Rattle.std.proofs.lemmas.Iterator.{YieldsList-from_map, YieldsList-from_slice}
use Rattle.std.proofs.lemmas.Iterator.Consumers.{sum_by_from_yields_List}
use Rattle.std.proofs.lemmas.List.Concat.{length-flat_map}
use Rattle.layers.specs.Selecting.{pages_of}
use Rattle.layers.proofs.ranges.total.Goals as goal

pub returns : goal.returns
returns c =
    let rs = c.args.ranges.now in
    sum_by_from_yields_List (λ r. length (pages_of r)) rs c.map.result c.sum.result c.sum.ensures.ran
    (YieldsList-from_map {s = c.map.result} _ (λ r. length (pages_of r)) (YieldsList-from_slice rs (search rules)) c.map.ensures.closure (λ x r q k. search (rules, tests)))
    ∙ sym (length-flat_map pages_of rs)
