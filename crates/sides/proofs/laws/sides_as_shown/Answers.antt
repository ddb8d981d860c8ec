use Rattle.sides.proofs.Showing.{sides_as_shown}
use Rattle.sides.proofs.laws.sides_as_shown.Goals as goal

pub returns : goal.returns
returns c = sides_as_shown
