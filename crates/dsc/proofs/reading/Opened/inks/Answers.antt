use Rattle.std.proofs.Common.{sym, refl}
use Rattle.dsc.proofs.Rooms.{opened}
use Rattle.dsc.proofs.reading.Opened.inks.Goals as goal

pub returns : goal.returns
returns c = record { rest = sym (opened c.args.self.now.file.now c.args.self.now.short c.args.self.now.marked); preamble = refl }
