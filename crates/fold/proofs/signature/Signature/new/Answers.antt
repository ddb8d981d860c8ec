use Rattle.fold.specs.Spelled.{spelled}
use Rattle.fold.proofs.Order.{folds_in_order}
use Rattle.fold.proofs.signature.Signature.new.Goals as goal

pub returns-clause-folds : goal.returns-clause-folds
returns-clause-folds c = folds_in_order (spelled c.args.word) c.args.sheets
