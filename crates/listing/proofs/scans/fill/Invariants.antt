use Rattle.std.proofs.Common.{◌≡◌, ℕ, ◌+◌, ◌*◌, List, ◌++◌, length}
use Rattle.std.specs.List.{flat_map}
use Rattle.pages.specs.Spans.{pair}
use Rattle.pages.specs.Splice.{splice}
use Rattle.listing.specs.Scans.{file_index}
use Rattle.listing.specs.Spans.{spans_left}
use Rattle.listing.proofs.scans.fill.Given as goal

-- the pairs that stand in the index, and those of the pages that are left
abbrev pub invariant-loop-i : goal.invariant-loop-i
invariant-loop-i l =
    (xs : List ℕ) × (length xs ≡ 2 * (l.i-iterator.count + 1)) × (l.index ≡ splice l.fn.index 0 xs) × (xs ++ flat_map pair (spans_left l.i-iterator.iter) ≡ file_index l.checked.file.now)
