use Rattle.dsc.proofs.Keywords.{strip_from}
use Rattle.dsc.proofs.comments.after.Goals as goal

pub returns : goal.returns
returns c = strip_from c.args.s.now c.args.keyword.now c.strip_prefix.result c.strip_prefix.ensures.cases
