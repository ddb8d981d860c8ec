use Rattle.std.proofs.Common.{rules}
use Rattle.std.proofs.lemmas.Bool.{cond-true}
use Rattle.pages.specs.Meaning.{Meaning}
use Rattle.layers.specs.Padding.{pad_shows}
use Rattle.layers.proofs.Showing.{in_range}
use Rattle.layers.proofs.Starting.{same_exact}
use Rattle.layers.proofs.pad.BlanksRule.start.Goals as goal

pub returns : goal.returns
returns g c =
    let m : Meaning = g.S.Source.meaning c.args.below.now in
    record {
      starting = search rules;
      exact = same_exact m (g.met.S.Source.lawful c.args.below.now) (pad_shows m) c.of.result.pages c.of.ensures.1 (λ p a b. cond-true _ _ _ (in_range p m.pages a b));
    }
