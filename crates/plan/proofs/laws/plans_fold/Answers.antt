use Rattle.plan.proofs.Fillings.{plans_fold}
use Rattle.plan.proofs.laws.plans_fold.Goals as goal

pub returns : goal.returns
returns c = plans_fold
