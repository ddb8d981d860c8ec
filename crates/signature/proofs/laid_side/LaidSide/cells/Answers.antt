use Rattle.fold.specs.Signatures.{letters_of}
use Rattle.signature.proofs.Positions.{count_is}
use Rattle.signature.proofs.laid_side.LaidSide.cells.Goals as goal

pub returns-clause-all : goal.returns-clause-all
returns-clause-all c = let s = c.args.self in count_is (letters_of s.signature) s.signature.sheets s.size s.side c.cells.result c.cells.ensures.all
