use Rattle.std.proofs.Common.{◌≡◌, ◌≤◌, false, length, is_some, refl, ap, ◌∙◌, subst}
use Rattle.pages.specs.Limits.{max_ink}
use Rattle.listing.specs.Pages.{cut}
use Rattle.listing.specs.Places.{refusal, top}
use Rattle.listing.specs.Scans.{Indexed}
use Rattle.listing.proofs.Lawful.{listed_lawful}
use Rattle.listing.proofs.reader.Listing.load.Goals as goal

pub invariant_of-self : goal.invariant_of-self
invariant_of-self c =
    let checked = c.in_ok-checked.checked in
    let same = c.in_ok-checked.ensures in
    let clean = subst (λ f. is_some (refusal top 0 f) ≡ false) same checked.clean in
    record {
      short = subst (λ f. length f ≤ max_ink) same checked.short;
      clean = clean;
      counted = c.pages-pages.ensures ∙ ap (λ f. length (cut 12 f)) same;
      indexed = subst (λ f. Indexed f c.args.index.now) same (c.if-not-has_index.ensures.0 refl);
      lawful = listed_lawful c.args.file.now clean;
    }
