use Rattle.layers.proofs.Keeping.{four_turns_lem}
use Rattle.layers.proofs.laws.four_turns_are_none.Goals as goal

pub returns : goal.returns
returns c = four_turns_lem
