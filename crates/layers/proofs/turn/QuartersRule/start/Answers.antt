use Rattle.std.proofs.Common.{refl, rules}
use Rattle.layers.specs.Turning.{turn_shows}
use Rattle.layers.proofs.Starting.{same_exact}
use Rattle.layers.proofs.turn.QuartersRule.start.Goals as goal

pub returns : goal.returns
returns g c =
    let m = g.S.Source.meaning c.args.below.now in
    record {
      starting = search rules;
      exact = same_exact m (g.met.S.Source.lawful c.args.below.now) (turn_shows 0 m) c.of.result.pages c.of.ensures.1 (λ _ _ _. refl);
    }
