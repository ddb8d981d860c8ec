use Rattle.std.proofs.Common.{[], refl}
use Rattle.pages.specs.Meaning.{Meaning}
use Rattle.layers.specs.Selecting.{select_shows}
use Rattle.layers.proofs.Selecting.{all_shown, select_below}
use Rattle.layers.proofs.Starting.{same_exact}
use Rattle.layers.proofs.select.RangesRule.start.Goals as goal

pub returns : goal.returns
returns g c =
    let m : Meaning = g.S.Source.meaning c.args.below.now in
    record {
      starting = record { none = refl; size = c.of.ensures.0; pages = c.of.ensures.1; below = select_below [] m c.of.result.pages refl };
      exact = same_exact m (g.met.S.Source.lawful c.args.below.now) (select_shows [] m) c.of.result.pages c.of.ensures.1 (all_shown m);
    }
