use Rattle.std.proofs.Common.{◌≡◌, MatchOption, Some, sym, refl, subst}
use Rattle.fold.specs.Signatures.{Thick, letters_of}
use Rattle.fold.specs.Words.{Letters, scheme}
use Rattle.pages.specs.Meaning.{Meaning}
use Rattle.signature.proofs.Accepting.{unopposed, imposed}
use Rattle.signature.proofs.imposition.ImpositionRule.ordered.Goals as goal

pub returns : goal.returns
returns g c =
    let m : Meaning = g.S.Source.meaning c.args.below.now in
    let n = c.args.order.number in
    let k = c.args.order.sheets in
    let s = c.in_ok-signature.signature in
    let made = subst (λ o. MatchOption o ((w : Letters) → scheme n ≡ Some w → Thick k → ⊥) (λ t. (scheme n ≡ Some (letters_of t)) × (t.sheets ≡ k))) c.in_ok-signature.ensures.ok_part c.signature.ensures in
    let named : Some (letters_of s) ≡ scheme n = sym made.0 in
    let z = c.of-pages.result.size in (
      unopposed n k m s z c.rows.result c.columns.result c.pages.result c.of-pages.result.pages
          named made.1 c.rows.ensures c.columns.ensures c.of-pages.ensures.0 c.of-pages.ensures.1 c.pages.ensures
          c.if-pages-ne0.false c.if-width-gt-MAX_SIDE.false c.if-height-gt-MAX_SIDE.false,
      imposed n k m s z c.rows.result c.columns.result c.pages.result c.of-pages.result.pages
          named made.1 c.rows.ensures c.columns.ensures c.of-pages.ensures.0 c.of-pages.ensures.1 c.pages.ensures
          _ refl c.sides.ensures.all,
    )
