use Rattle.std.proofs.Common.{refl, rules}
use Rattle.pages.specs.Meaning.{Meaning}
use Rattle.layers.specs.Reducing.{reduce_shows}
use Rattle.layers.proofs.Starting.{same_exact}
use Rattle.layers.proofs.reduce.RatioRule.start.Goals as goal

pub returns : goal.returns
returns g c =
    let m : Meaning = g.S.Source.meaning c.args.below.now in
    record {
      starting = search rules;
      exact = same_exact m (g.met.S.Source.lawful c.args.below.now) (reduce_shows 1 1 m) c.of.result.pages c.of.ensures.1 (λ _ _ _. refl);
    }
