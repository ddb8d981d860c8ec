use Rattle.std.proofs.Common.{length, sym, ap, arith}
use Rattle.std.proofs.lemmas.Bool.{cond-true, cond-false}
use Rattle.text.proofs.Splices.{wrote_as, wrote_one, wrote_two}
use Rattle.listing.specs.Inks.{escape, special}
use Rattle.listing.proofs.inks.put_escape.Goals as goal

pub returns-then-is_special : goal.returns-then-is_special
returns-then-is_special c =
    let e = cond-true (special c.args.b) _ _ (sym c.if-is_special.ensures) in
    wrote_as (escape c.args.b) (sym e) (wrote_two c.args.buffer.now c.args.at 92 c.args.b (omega (arith, c.requires, ap length e)))

pub returns : goal.returns
returns c =
    let e = cond-false (special c.args.b) _ _ (sym c.if-is_special.ensures) in
    wrote_as (escape c.args.b) (sym e) (wrote_one c.args.buffer.now c.args.at c.args.b (omega (arith, c.requires, ap length e)))
