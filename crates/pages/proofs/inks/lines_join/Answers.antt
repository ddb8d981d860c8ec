use Rattle.pages.specs.Inks.{lines}
use Rattle.pages.proofs.Cuts.{cuts}
use Rattle.pages.proofs.inks.lines_join.Goals as goal

pub returns : goal.returns
returns c = cuts lines
