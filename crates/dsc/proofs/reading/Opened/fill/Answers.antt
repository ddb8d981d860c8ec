use Rattle.std.proofs.Common.{◌≡◌, ◌+◌, ◌*◌, ◌≤◌, ◌++◌, length, Some, Ok, ap, ◌∙◌, arith, length-append}
use Rattle.pages.specs.Meaning.{written}
use Rattle.pages.specs.Spans.{pair}
use Rattle.dsc.specs.Scans.{meant}
use Rattle.dsc.specs.Readings.{numbers, Gives}
use Rattle.dsc.proofs.Came.{Came, came_on, came_leaf}
use Rattle.dsc.proofs.Grows.{rest_grows}
use Rattle.dsc.proofs.Pairs.{put_next, never_full}
use Rattle.dsc.proofs.reading.Opened.fill.Goals as goal
use Rattle.dsc.proofs.reading.Opened.fill.Goals.{After-put}

steps : (c : After-put) → Gives c.loop-ink.ink-iterator (Some (Ok c.in_ok-ink.ink)) c.next.new.self
steps c = rw c.in_ok-ink.was at c.in-Some.ensures.steps

came : (c : After-put) → Came c.args.self.now.file.now c.next.new.self (c.loop-ink.invariant.0 ++ numbers c.in_ok-ink.ink)
came c = came_on c.args.self.now.file.now c.loop-ink.invariant.0 c.loop-ink.ink-iterator c.next.new.self c.loop-ink.invariant.1 c.in_ok-ink.ink (steps c)

place : (c : After-put) → length c.loop-ink.invariant.0 ≡ 2 * c.in_ok-ink.ink.leaf
place c = came_leaf c.args.self.now.file.now c.loop-ink.invariant.0 c.loop-ink.ink-iterator c.next.new.self c.loop-ink.invariant.1 c.in_ok-ink.ink (steps c)

fits : (c : After-put) → length (c.loop-ink.invariant.0 ++ numbers c.in_ok-ink.ink) ≤ length c.args.index.now
fits c = omega (arith, rest_grows c.next.new.self (c.loop-ink.invariant.0 ++ numbers c.in_ok-ink.ink) (meant c.args.self.now.file.now) ((came c).same ∙ c.requires.accepted), c.requires.room)

room : (c : After-put) → 2 * c.in_ok-ink.ink.leaf + 2 ≤ length c.loop-ink.index
room c = omega (arith, fits c, place c, length-append c.loop-ink.invariant.0 (numbers c.in_ok-ink.ink), c.loop-ink.auto.index)

pub loop-ink-preserved : goal.loop-ink-preserved
loop-ink-preserved c =
    let d = (goal.at.loop-ink-preserved c).After-put in
    let inv = c.loop-ink.invariant in
    let ink = c.in_ok-ink.ink in (
      inv.0 ++ numbers ink,
      came d,
      c.put.ensures.after ∙ ap (λ l. written (pair ink.span) l (2 * ink.leaf)) inv.2 ∙ put_next c.args.index.now inv.0 ink.leaf ink.span (place d) (fits d),
    )

pub returns-in_err-put-clause-answer : goal.returns-in_err-put-clause-answer
returns-in_err-put-clause-answer c = absurd (never_full c.in_ok-ink.ink.leaf (length c.loop-ink.index) c.put.result c.in_err-put.field-0.0 c.put.ensures.answer (room (goal.at.returns-in_err-put-clause-answer c).After-put) c.in_err-put.was)

pub returns-in_err-put-clause-after : goal.returns-in_err-put-clause-after
returns-in_err-put-clause-after c = absurd (never_full c.in_ok-ink.ink.leaf (length c.loop-ink.index) c.put.result c.in_err-put.field-0.0 c.put.ensures.answer (room (goal.at.returns-in_err-put-clause-after c).After-put) c.in_err-put.was)
