use Rattle.std.proofs.Common.{◌≡◌, ◌^◌, ◌<◌, drop}
use Rattle.dsc.specs.Values.{digits}
use Rattle.dsc.proofs.values.number.Given as goal

abbrev pub invariant-loop-b : goal.invariant-loop-b
invariant-loop-b l = (digits l.n (drop l.b-index l.word) ≡ digits 0 l.word) × (l.n < 10 ^ l.b-index)
