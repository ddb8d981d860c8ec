use Rattle.dsc.proofs.Grammars.{written}
use Rattle.dsc.proofs.laws.comments_are_written.Goals as goal

pub returns : goal.returns
returns c = written
