use Rattle.std.proofs.Common.{append_assoc}
use Rattle.sides.specs.Texts.{page_line}
use Rattle.sides.proofs.texts.page_line.Goals as goal

pub returns : goal.returns
unfolding page_line
returns c = simp append_assoc
