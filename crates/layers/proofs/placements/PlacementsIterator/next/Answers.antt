use Rattle.std.proofs.Common.{rules, sym, ap, ◌∙◌}
use Rattle.std.specs.Result.{result_ok}
use Rattle.layers.proofs.Showing.{last_placed, next_placed, next_within}
use Rattle.layers.proofs.placements.PlacementsIterator.next.Goals as goal

pub returns-in_err-placement-clause-steps : goal.returns-in_err-placement-clause-steps
returns-in_err-placement-clause-steps g c =
    let s = c.self.inside in
    let e = last_placed (g.S.Source.meaning s.source.now) s.page s.slot (sym (c.ok.ensures.value ∙ ap result_ok c.place.ensures) ∙ c.in_err-placement.was) in
    let v = c.self.view_is in
    search rules

pub invariant_of-self : goal.invariant_of-self
invariant_of-self g c =
    let s = c.self.inside in
    next_within (g.S.Source.meaning s.source.now) s.page s.slot (g.met.S.Source.lawful s.source.now) c.in_ok-placement.placement
    (sym (c.ok.ensures.value ∙ ap result_ok c.place.ensures) ∙ c.in_ok-placement.was)

pub returns-clause-steps : goal.returns-clause-steps
returns-clause-steps g c =
    let s = c.self.inside in
    let e = next_placed (g.S.Source.meaning s.source.now) s.page s.slot (g.met.S.Source.lawful s.source.now) c.in_ok-placement.placement
    (sym (c.ok.ensures.value ∙ ap result_ok c.place.ensures) ∙ c.in_ok-placement.was) in
    let v = c.self.view_is in
    search rules

pub returns-clause-goes : goal.returns-clause-goes
returns-clause-goes g c = let e = returns-clause-steps g c in search rules
