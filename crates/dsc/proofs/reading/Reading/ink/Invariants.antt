use Rattle.std.proofs.Common.{◌≡◌, ℕ, ◌+◌, ◌≤◌, List, None, length}
use Rattle.pages.specs.Inks.{lines_of}
use Rattle.dsc.specs.Bounds.{longest}
use Rattle.dsc.specs.Scans.{run}
use Rattle.dsc.proofs.reading.Reading.ink.Given as goal

abbrev pub invariant-loop-line : goal.invariant-loop-line
invariant-loop-line l = record {
  taken : l.self.unread ≡ None;
  short : l.self.at + length l.unread ≤ longest;
  fewer : length l.unread ≤ length l.initial.unread;
  begun : l.self.scanner.begun ≡ l.initial.self.scanner.begun;
  same : (xs : List ℕ) → run l.initial.self.scanner l.initial.self.at xs (lines_of l.initial.unread) ≡ run l.self.scanner l.self.at xs (lines_of l.unread);
}

abbrev pub decreases-loop-line : goal.decreases-loop-line
decreases-loop-line l = length l.unread
