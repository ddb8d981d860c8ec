use Rattle.std.proofs.Common.{arith}
use Rattle.dsc.proofs.Spans.{until_le}
use Rattle.dsc.proofs.values.word.Goals as goal

pub split_at-requires : goal.split_at-requires
split_at-requires c = omega (arith, until_le 32 c.trimmed-s.result.now)
