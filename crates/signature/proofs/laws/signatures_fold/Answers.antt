use Rattle.signature.proofs.Sides.{signatures_fold}
use Rattle.signature.proofs.laws.signatures_fold.Goals as goal

pub returns : goal.returns
returns c = signatures_fold
