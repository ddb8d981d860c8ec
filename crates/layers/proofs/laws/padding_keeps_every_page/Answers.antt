use Rattle.layers.proofs.Keeping.{pad_keeps}
use Rattle.layers.proofs.laws.padding_keeps_every_page.Goals as goal

pub returns : goal.returns
returns c = pad_keeps
