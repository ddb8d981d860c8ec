use Rattle.std.proofs.Common.{◌≡◌, ◌-◌, length, get_or, arith, ltb-true}
use Rattle.std.proofs.lemmas.Bool.Decides.{nat_tests}
use Rattle.std.proofs.lemmas.List.{get_or_past}
use Rattle.dsc.proofs.lines.without_return.Goals as goal

pub returns-in_default : goal.returns-in_default
returns-in_default c =
    let l = c.args.text.now in
    let none : get_or l (length l - 1) 0 ≡ 0 = get_or_past l (length l - 1) 0 (omega (arith, ltb-true)) in
    grind (arith, nat_tests)
