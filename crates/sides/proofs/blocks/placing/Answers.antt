use Rattle.std.proofs.Common.{w64, SFits, rules}
use Rattle.sides.proofs.Placing.{placing_flat}
use Rattle.sides.proofs.blocks.placing.Goals as goal

pub returns : goal.returns
returns c =
    let fx : SFits w64 c.args.map.x = search rules in
    let fy : SFits w64 c.args.map.y = search rules in
    placing_flat c.args.map fx fy
