use Rattle.std.proofs.Common.{◌≡◌, drop}
use Rattle.listing.specs.Places.{refusal, top}
use Rattle.listing.proofs.checked.examine.Given as goal

abbrev pub invariant-loop-i : goal.invariant-loop-i
invariant-loop-i l = refusal l.place l.i (drop l.i l.file) ≡ refusal top 0 l.file
