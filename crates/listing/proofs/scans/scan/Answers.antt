use Rattle.std.proofs.Common.{length, refl, inr, ap, ◌∙◌, subst, arith}
use Rattle.pages.specs.Splice.{splice}
use Rattle.listing.specs.Pages.{cut}
use Rattle.listing.specs.Scans.{Good, file_index}
use Rattle.listing.proofs.Bounds.{good}
use Rattle.listing.proofs.Cuts.{length-index}
use Rattle.listing.proofs.scans.scan.Goals as goal

pub returns-then-index-index_numbers : goal.returns-then-index-index_numbers
returns-then-index-index_numbers c =
    let same = c.in_ok-checked.ensures in
    let pages = c.pages-pages.ensures ∙ ap (λ f. length (cut 12 f)) same in
    (refl, inr (subst Good same (good c.in_ok-checked.checked), omega (arith, pages, length-index 0 (cut 12 c.args.file.now), c.if-index-index_numbers.true, c.index_numbers.ensures), c.new-then-index-index_numbers.ensures))

pub fill-requires : goal.fill-requires
fill-requires c = omega (arith, c.pages-pages.ensures, length-index 0 (cut 12 c.in_ok-checked.checked.file.now), c.if-index-index_numbers.false, c.index_numbers.ensures)

pub returns : goal.returns
returns c =
    let same = c.in_ok-checked.ensures in
    let pages = c.pages-pages.ensures ∙ ap (λ f. length (cut 12 f)) same in (
      subst Good same (good c.in_ok-checked.checked),
      pages,
      omega (arith, pages, length-index 0 (cut 12 c.args.file.now), c.if-index-index_numbers.false, c.index_numbers.ensures),
      c.fill.ensures.after ∙ ap (λ f. splice c.args.index.now 0 (file_index f)) same,
    )
