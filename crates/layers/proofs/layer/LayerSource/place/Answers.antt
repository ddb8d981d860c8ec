use Rattle.std.proofs.Common.{ℕ, ◌≡◌, ◌≤◌, Err, ap, ◌∙◌, rules}
use Rattle.std.specs.Option.{ok_or}
use Rattle.pages.specs.Meaning.{Meaning, fault, slot_at}
use Rattle.layers.specs.Layering.{shown}
use Rattle.pages.specs.declared.faults.Fault.{Fault}
use Rattle.pages.specs.declared.faults.Refusal.TheVariants.{NoSuch}
use Rattle.layers.proofs.Showing.{place_layered, refused_layered}
use Rattle.layers.proofs.layer.LayerSource.place.Goals as goal

pub returns-then-slot-gt-MAX_PLACEMENTS : goal.returns-then-slot-gt-MAX_PLACEMENTS
returns-then-slot-gt-MAX_PLACEMENTS g c =
    let s = c.args.self.now in
    let m : Meaning = g.S.Source.meaning s.below in
    let n = c.new.ensures in
    let v = c.if-not-contains.ensures in
    let a : 1 ≤ c.args.page = search rules in
    let b : c.args.page ≤ s.extent.pages = search rules in
    ap (λ (f : Fault). Err f) (c.new-refused.ensures ∙ ap (λ (d : ℕ). fault NoSuch d c.args.page) c.depth.ensures)
    ∙ refused_layered (g.R.Rule.shows s.rule m) s.extent m c.args.page a b c.args.slot c.if-slot-gt-MAX_PLACEMENTS.true

pub returns : goal.returns
returns g c =
    let s = c.args.self.now in
    let m : Meaning = g.S.Source.meaning s.below in
    let n = c.new.ensures in
    let v = c.if-not-contains.ensures in
    let a : 1 ≤ c.args.page = search rules in
    let b : c.args.page ≤ s.extent.pages = search rules in
    let q : c.place.result ≡ slot_at (shown m (g.R.Rule.shows s.rule m c.args.page)) c.args.slot = cc in
    c.ok_or.ensures.value
    ∙ ap (λ (f : Fault). ok_or c.place.result f) (c.new-refused.ensures ∙ ap (λ (d : ℕ). fault NoSuch d c.args.page) c.depth.ensures)
    ∙ place_layered (g.R.Rule.shows s.rule m) s.extent m c.args.page a b c.args.slot c.place.result c.if-slot-gt-MAX_PLACEMENTS.false q
