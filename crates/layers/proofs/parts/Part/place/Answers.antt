use Rattle.std.proofs.Common.{rules, ◌≡◌, ap, ◌∙◌}
use Rattle.std.specs.Option.{option_map}
use Rattle.std.specs.Result.{result_ok}
use Rattle.layers.specs.Layering.{moved}
use Rattle.layers.proofs.Showing.{slot_moved}
use Rattle.layers.proofs.parts.Part.place.Goals as goal

pub returns : goal.returns
returns g c =
    let m = g.S.Source.meaning c.args.below.now in
    let e : c.map.result ≡ option_map (moved c.args.self.map) c.ok.result = search rules in
    e ∙ ap (option_map (moved c.args.self.map)) (c.ok.ensures.value ∙ ap result_ok c.place.ensures) ∙ slot_moved m c.args.self c.args.slot
