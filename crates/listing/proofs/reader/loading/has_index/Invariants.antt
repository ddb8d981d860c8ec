use Rattle.std.proofs.Common.{◌≡◌, ℕ, ◌+◌, ◌*◌, List, ◌++◌, length, take}
use Rattle.std.specs.List.{flat_map}
use Rattle.pages.specs.Spans.{pair}
use Rattle.listing.specs.Scans.{file_index}
use Rattle.listing.specs.Spans.{spans_left}
use Rattle.listing.proofs.reader.loading.has_index.Given as goal

-- the numbers that were compared, and those of the pages that are left
abbrev pub invariant-loop-i : goal.invariant-loop-i
invariant-loop-i l =
    (xs : List ℕ) × (length xs ≡ 2 * (l.i-iterator.count + 1)) × (take (length xs) l.index ≡ xs) × (xs ++ flat_map pair (spans_left l.i-iterator.iter) ≡ file_index l.checked.file.now)
