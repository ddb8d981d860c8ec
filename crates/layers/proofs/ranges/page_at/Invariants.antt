use Rattle.std.proofs.Common.{◌≡◌, get_or, drop}
use Rattle.layers.specs.Selecting.{all_pages_of}
use Rattle.layers.proofs.ranges.page_at.Given as goal

abbrev pub invariant-loop-range : goal.invariant-loop-range
invariant-loop-range l = get_or (all_pages_of l.ranges) l.index 0 ≡ get_or (all_pages_of (drop l.range-index l.ranges)) l.rest 0
