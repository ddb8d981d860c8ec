use Rattle.layers.proofs.Keeping.{select-all}
use Rattle.layers.proofs.laws.selecting_all_shows_what_is_below.Goals as goal

pub returns : goal.returns
returns c = select-all
