use Rattle.std.proofs.Common.{◌+◌, ◌^◌, ◌<◌, [], ◌∷◌, ◌++◌, sym, ap, ◌∙◌, subst, arith}
use Rattle.fold.specs.Words.{letters}
use Rattle.fold.proofs.Masks.{digit_low, of_digit_of, set_digit, set_below, letters_push}
use Rattle.fold.proofs.word.Word.push.Goals as goal

pub invariant_of-result : goal.invariant_of-result
invariant_of-result c =
    let w = c.args.self in
    let d = c.digit.result in
    let low : d < 2 = subst (λ x. x < 2) (sym c.digit.ensures) (digit_low c.args.letter) in
    let e = set_digit w.len w.mask d c.if-self-ge4.false w.within low in
    record {
      lettered = (omega arith, omega (arith, c.if-self-ge4.false));
      within = subst (λ m. m < 2 ^ (w.len + 1)) (sym e) (set_below w.len w.mask d w.within low);
    }

pub returns : goal.returns
returns c =
    let w = c.args.self in
    let d = c.digit.result in
    let low : d < 2 = subst (λ x. x < 2) (sym c.digit.ensures) (digit_low c.args.letter) in
    let e = set_digit w.len w.mask d c.if-self-ge4.false w.within low in
    ap (letters (w.len + 1)) e ∙ letters_push w.len w.mask d w.within low
    ∙ ap (λ l. letters w.len w.mask ++ l ∷ []) (of_digit_of c.args.letter d c.digit.ensures)
