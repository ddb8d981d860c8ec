use Rattle.std.proofs.Common.{◌≡◌}
use Rattle.pages.specs.Meaning.{slot_at}
use Rattle.layers.specs.Layering.{shown}
use Rattle.layers.proofs.views.View.place.Given as goal

-- the slot that is asked for is the one of `rest` in the parts that are left
abbrev pub invariant-loop-part : goal.invariant-loop-part
invariant-loop-part g l =
    slot_at (shown (g.S.Source.meaning l.self.below.now) (g.R.Rule.shows l.self.rule.now (g.S.Source.meaning l.self.below.now) l.page)) l.slot
    ≡ slot_at (shown (g.S.Source.meaning l.self.below.now) l.part-iterator) l.rest
