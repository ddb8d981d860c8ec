use Rattle.std.proofs.Common.{append_assoc}
use Rattle.sides.specs.Texts.{head_text}
use Rattle.sides.proofs.texts.head.Goals as goal

pub returns : goal.returns
unfolding head_text
returns c = simp append_assoc
