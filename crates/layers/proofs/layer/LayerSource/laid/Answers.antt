use Rattle.std.proofs.Common.{ℕ, ◌≡◌, length, ◌≤◌, Ok, ap, ◌∙◌, rules}
use Rattle.pages.specs.Meaning.{Meaning}
use Rattle.layers.specs.Layering.{shown}
use Rattle.layers.proofs.Showing.{laid_layered}
use Rattle.layers.proofs.layer.LayerSource.laid.Goals as goal

pub returns : goal.returns
returns g c =
    let s = c.args.self.now in
    let m : Meaning = g.S.Source.meaning s.below in
    let n = c.new.ensures in
    let v = c.if-not-contains.ensures in
    let a : 1 ≤ c.args.page = search rules in
    let b : c.args.page ≤ s.extent.pages = search rules in
    let q : c.count.result ≡ length (shown m (g.R.Rule.shows s.rule m c.args.page)) = cc in
    ap (λ (n : ℕ). Ok n) c.min.ensures
    ∙ laid_layered (g.R.Rule.shows s.rule m) s.extent m c.args.page a b c.count.result q
