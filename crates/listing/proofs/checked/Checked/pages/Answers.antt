use Rattle.std.proofs.Common.{◌≤◌, length, inl, ap, arith}
use Rattle.std.proofs.lemmas.Grind.{common_steps}
use Rattle.pages.specs.Limits.{max_pages}
use Rattle.listing.specs.Pages.{cut}
use Rattle.listing.specs.Places.{form_feed}
use Rattle.listing.proofs.Bounds.{bounds, good}
use Rattle.listing.proofs.Spans.{extent_cut, length_extent}
use Rattle.listing.proofs.checked.Checked.pages.Goals as goal

pub count-requires-clause-fits : goal.count-requires-clause-fits
count-requires-clause-fits c =
    let p = c.new.result in
    inl (omega (arith, length_extent (cut p.separator p.rest.now), extent_cut p.separator p.rest.now, ap length c.new.ensures.bytes, c.args.self.now.short))

pub overflow_cast-result : goal.overflow_cast-result
overflow_cast-result c =
    let few : length (cut form_feed c.args.self.now.file.now) ≤ max_pages = (bounds c.args.self.now.file.now (good c.args.self.now).clean).0 in
    grind (arith, common_steps)
