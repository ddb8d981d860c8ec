use Rattle.std.proofs.Common.{arith}
use Rattle.std.proofs.lemmas.Nat.{mul-le}
use Rattle.signature.proofs.Grids.{takes}
use Rattle.plan.proofs.records.pages_of.Goals as goal

pub overflow_mul-result : goal.overflow_mul-result
overflow_mul-result c =
    let most = (takes c.args.signature.now).most in
    let h = c.requires in
    omega (arith, mul-le c.args.signatures c.pages.result 4096 512 (omega arith) (omega (arith, c.pages.ensures)))

pub returns-clause-few : goal.returns-clause-few
returns-clause-few c =
    let most = (takes c.args.signature.now).most in
    let h = c.requires in
    mul-le c.args.signatures c.pages.result 4096 512 (omega arith) (omega (arith, c.pages.ensures))
