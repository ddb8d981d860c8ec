use Rattle.std.proofs.Common.{◌≡◌, ℕ, ◌+◌, ◌-◌, List, length, take, ltb, ap, ◌∙◌, arith}
use Rattle.std.specs.Bool.{then_some}
use Rattle.std.proofs.lemmas.List.{length-take}
use Rattle.layers.specs.declared.ranges.Range.{Range}
use Rattle.layers.proofs.Selecting.{all_numbered}
use Rattle.layers.proofs.select.Ranges.shown.Goals as goal

pub returns-then-self-eq0 : goal.returns-then-self-eq0
returns-then-self-eq0 c =
    let s = c.args.self.now in
    let rs : List Range = take s.count s.given in
    let n : length rs ≡ 0 = omega (arith, length-take s.count s.given, s.long, c.if-self-eq0.true) in
    c.then_some.ensures ∙ ap (λ (i : ℕ). then_some (ltb i c.args.pages) (i + 1)) c.saturating_sub-index.ensures
    ∙ all_numbered rs c.args.pages (c.args.page - 1) n
