use Rattle.std.proofs.Common.{length, ap, arith}
use Rattle.listing.proofs.Spans.{extent_cut}
use Rattle.listing.proofs.checked.Checked.spans.Goals as goal

pub invariant_of-result : goal.invariant_of-result
invariant_of-result c = record { fits = omega (arith, extent_cut c.new.result.separator c.new.result.rest.now, ap length c.new.ensures.bytes, c.args.self.now.short) }
