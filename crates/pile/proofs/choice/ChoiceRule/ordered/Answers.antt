use Rattle.std.proofs.Common.{◌≡◌, List, [], Some, None, Result, sym, refl, ap, subst, ◌∙◌, MatchResult}
use Rattle.layers.specs.Selecting.{SelectTaken, select_objects}
use Rattle.layers.specs.declared.parts.Objection.{Objection}
use Rattle.layers.specs.declared.ranges.Range.{Range}
use Rattle.layers.specs.declared.rules.Plan.{Plan}
use Rattle.layers.specs.declared.select.Ranges.{Ranges}
use Rattle.pages.specs.Meaning.{Meaning}
use Rattle.pile.specs.Choices.{ChoiceTakes, choice_objects, given_by, ranges_of}
use Rattle.pile.specs.declared.choice.Choice.{Choice}
use Rattle.pile.specs.declared.choice.Choice.TheVariants.{Selecting, Padding, Turning, Reducing, Imposing}
use Rattle.pile.specs.declared.orders.Order.{Order}
use Rattle.pile.specs.declared.orders.Order.TheVariants.{Select}
use Rattle.pile.proofs.choice.ChoiceRule.ordered.Goals as goal

module _ (m : Meaning) (x : Result (Plan Choice) Objection) where
  -- what an order answers
  abbrev Answered : Choice → Order → Type 0
  Answered c o = MatchResult x (λ p. (choice_objects c o m ≡ None) × ChoiceTakes c o m p.rule p.extent) (λ e. choice_objects c o m ≡ Some e)

  -- what a range answers, over the ranges so far
  abbrev Added : Range → List Range → Type 0
  Added r rs = MatchResult x (λ p. (select_objects rs r m ≡ None) × ((q : Ranges) × (p.rule ≡ Selecting q) × SelectTaken rs r m (given_by q) p.extent)) (λ e. select_objects rs r m ≡ Some e)

  answered : (c : Choice) (o : Order) (r : Range) (rs : List Range) → o ≡ Select r → rs ≡ ranges_of c → Added r rs → Answered c o
  answered c o r rs is so h = subst (Answered c) (sym is) (subst (Added r) so h)

none_so_far : (c : Choice) → ((r : Ranges) → c ≡ Selecting r → ⊥) → ranges_of c ≡ []
none_so_far (Selecting r) n = absurd (n r refl)
none_so_far (Padding b) n = refl
none_so_far (Turning r) n = refl
none_so_far (Reducing r) n = refl
none_so_far (Imposing r) n = refl

pub returns-in-Selecting : goal.returns-in-Selecting
returns-in-Selecting g c =
    let k : Choice = c.args.self.now in
    answered (g.S.Source.meaning c.args.below.now) c.ordered_by.result k c.args.order c.in-Select.range
    (given_by c.in-Selecting.ranges) c.in-Select.is (ap ranges_of (sym c.in-Selecting.is)) c.ordered_by.ensures

pub returns-in_default : goal.returns-in_default
returns-in_default g c =
    let k : Choice = c.args.self.now in
    let e = c.ordered_newly.ensures in
    answered (g.S.Source.meaning c.args.below.now) c.ordered_newly.result k c.args.order c.in-Select.range
    (given_by e.0) c.in-Select.is (e.2.none ∙ sym (none_so_far k c.in_default.not-Selecting)) e.3
