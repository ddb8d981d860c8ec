use Rattle.fold.proofs.Law.{leaves_follow_the_walk}
use Rattle.fold.proofs.Order.{folds_in_order}
use Rattle.fold.proofs.theorems.folding_reads_in_order.Goals as goal

pub returns : goal.returns
returns c = record { follows = leaves_follow_the_walk; order = folds_in_order }
