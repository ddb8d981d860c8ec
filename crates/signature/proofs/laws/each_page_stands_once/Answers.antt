use Rattle.signature.proofs.Standing.{by_rows, each_page_once}
use Rattle.signature.proofs.laws.each_page_stands_once.Goals as goal

pub returns : goal.returns
returns c = record { rows = by_rows; once = each_page_once }
