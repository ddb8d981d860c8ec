use Rattle.std.proofs.Common.{ap, ◌∙◌}
use Rattle.pages.specs.Meaning.{Meaning, slot_at}
use Rattle.layers.specs.Layering.{Parts, shown}
use Rattle.layers.proofs.Showing.{slot_on}
use Rattle.layers.proofs.views.View.place.Goals as goal

pub loop-part-preserved : goal.loop-part-preserved
loop-part-preserved g c =
    let m : Meaning = g.S.Source.meaning c.args.self.now.below.now in
    c.loop-part.invariant ∙ ap (λ (xs : Parts). slot_at (shown m xs) c.loop-part.rest) c.in-Some.ensures.steps
    ∙ slot_on m c.in-Some.part c.next.new.self c.loop-part.rest c.count-count.result c.count-count.ensures.all c.if-rest-count.false
