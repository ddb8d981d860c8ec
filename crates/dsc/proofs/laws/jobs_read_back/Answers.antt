use Rattle.dsc.proofs.Backs.{reads_back}
use Rattle.dsc.proofs.laws.jobs_read_back.Goals as goal

pub returns : goal.returns
returns c = reads_back
