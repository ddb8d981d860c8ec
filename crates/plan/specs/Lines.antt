-- A record as a line of text.
use Rattle.std.specs.Prelude.{ℕ, List, ◌++◌, codes, decimal}
use Rattle.plan.specs.declared.record.Record.{Record}

-- SIGNATURE SHEET SIDE ROW COLUMN PAGE MARK
abbrev pub record_line : Record → List ℕ
record_line r = decimal r.signature ++ (codes " " ++ (decimal r.sheet ++ (codes " " ++ (decimal r.side ++ (codes " " ++ (decimal r.row ++ (codes " " ++ (decimal r.column ++ (codes " " ++ (decimal r.page ++ (codes " " ++ decimal r.mark)))))))))))
