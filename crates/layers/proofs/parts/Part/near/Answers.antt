use Rattle.std.proofs.Common.{rules, tests, is_some}
use Rattle.std.proofs.lemmas.Iterator.Consumers.{YieldsList-from_first}
use Rattle.std.proofs.lemmas.Iterator.Search.{all_from_yields_List}
use Rattle.pages.specs.Maps.{composed}
use Rattle.layers.specs.Layering.{placed}
use Rattle.layers.proofs.parts.Part.near.Goals as goal

pub returns : goal.returns
returns g c =
    let ps = placed (g.S.Source.meaning c.args.below.now) c.args.self.page in
    all_from_yields_List (λ p. is_some (composed p.map c.args.self.map)) _ _ c.all.result c.all.ensures.ran
    (YieldsList-from_first (λ x. x) (λ s. s) ps c.of.ensures) (λ x b q k. search (rules, tests))
