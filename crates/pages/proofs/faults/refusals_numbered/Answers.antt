use Rattle.pages.proofs.Numbers.{numbered}
use Rattle.pages.proofs.faults.refusals_numbered.Goals as goal

pub returns : goal.returns
returns c = numbered
