use Rattle.dsc.proofs.Indexed.{lawful}
use Rattle.dsc.proofs.reader.Dsc.load.Goals as goal

pub invariant_of-self-clause-lawful : goal.invariant_of-self-clause-lawful
invariant_of-self-clause-lawful c = lawful c.args.file.now
