use Rattle.dsc.proofs.Accepted.{parts}
use Rattle.dsc.proofs.Rebuilt.{whole}
use Rattle.dsc.proofs.Indexed.{inks}
use Rattle.dsc.proofs.laws.accepts_documents.Goals as goal

pub returns : goal.returns
returns c = record { parts = parts; whole = whole; inks = inks }
