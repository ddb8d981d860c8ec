use Rattle.std.proofs.Common.{◌≡◌, length, refl, arith}
use Rattle.sides.specs.Texts.{part_text}
use Rattle.sides.proofs.Bounds.{position_short}
use Rattle.sides.proofs.Puts.{counted}
use Rattle.sides.proofs.positions.position_length.Goals as goal

pub returns : goal.returns
returns g c =
    let x = c.args.below.now in
    let m = g.S.Source.meaning x in
    let few = position_short m (g.met.S.Source.lawful x) c.args.position.now in
    let e : c.put_position.new.out.count ≡ length (part_text m c.args.position.now) = counted (record { count = 0; small = omega arith }) _ _ _ refl (omega arith) c.put_position.ensures in
    record { all = e; few = omega arith }
