use Rattle.pages.specs.Meaning.{Meaning}
use Rattle.layers.proofs.Exactly.{near_exact}
use Rattle.layers.proofs.layer.Layer.check.Goals as goal

pub returns : goal.returns
returns g c =
    let m : Meaning = g.S.Source.meaning c.args.self.now.below in
    near_exact (g.R.Rule.shows c.args.plan.now.rule m) c.args.plan.now.extent.pages m c.in_default.ensures c.in_default-first_far.ensures
