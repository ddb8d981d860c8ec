use Rattle.std.proofs.Common.{◌≡◌, ◌≤◌, length, refl, arith, length-append}
use Rattle.sides.specs.Texts.{head_text, opening_of}
use Rattle.sides.proofs.Placing.{head_short}
use Rattle.sides.proofs.Puts.{counted}
use Rattle.sides.proofs.texts.opening_length.Goals as goal

pub returns : goal.returns
returns g c =
    let x = c.args.source.now in
    let m = g.S.Source.meaning x in
    let l = g.met.S.Source.lawful x in
    let h = head_short m.width m.height m.pages (omega (arith, l.wide.1)) (omega (arith, l.high.1)) (omega (arith, l.paged)) in
    let few : length (opening_of m) ≤ 16777480 = omega (arith, h, l.inked 0 (omega arith), length-append (head_text m.width m.height m.pages) (m.ink 0)) in
    let e : c.put_opening.new.out.count ≡ length (opening_of m) = counted (record { count = 0; small = omega arith }) _ _ _ refl (omega arith) c.put_opening.ensures in
    record { all = e; few = omega arith }
