use Rattle.std.proofs.Common.{[], sym, refl, add-zero, arith}
use Rattle.text.specs.Splicing.{splice_none}
use Rattle.listing.specs.Inks.{escaped}
use Rattle.listing.proofs.inks.LentLineSink.take_escaped.Goals as goal

pub returns-then-not-has_room : goal.returns-then-not-has_room
returns-then-not-has_room c =
    let s = c.args.self.now in record {
      short = grind (arith, c.if-not-has_room.true, c.has_room.ensures, s.within);
      front = [];
      rest = escaped c.args.line.now;
      parts = refl;
      holds = sym (splice_none s.buffer.now s.at);
      ends = sym (add-zero s.at);
      same = refl;
    }
