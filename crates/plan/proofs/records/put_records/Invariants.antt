use Rattle.std.proofs.Common.{◌≡◌, ◌++◌, map, drop}
use Rattle.std.specs.List.{range_with_len}
use Rattle.fold.specs.Signatures.{letters_of}
use Rattle.plan.specs.Records.{record_at}
use Rattle.plan.proofs.records.put_records.Given as goal

abbrev pub invariant-loop-index : goal.invariant-loop-index
invariant-loop-index l =
    l.entry-items ≡ map (record_at (letters_of l.signature) l.signature.sheets l.side) (range_with_len 0 l.index) ++ drop l.index l.initial.entry-items
