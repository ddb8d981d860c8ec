use Rattle.dsc.proofs.Joined.{readings_join}
use Rattle.dsc.proofs.laws.readings_join.Goals as goal

pub returns : goal.returns
returns c = readings_join
