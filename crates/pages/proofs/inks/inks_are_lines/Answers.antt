use Rattle.pages.proofs.Lines.{reads_line, reads_last, inks_are_lines}
use Rattle.pages.proofs.inks.inks_are_lines.Goals as goal

pub returns : goal.returns
returns c = record { line = reads_line; last = reads_last; inks = inks_are_lines }
