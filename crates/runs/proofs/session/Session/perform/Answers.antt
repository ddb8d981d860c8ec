use Rattle.std.proofs.Common.{[], refl, ap, ◌∙◌, take, arith, rules}
use Rattle.pages.specs.Meaning.{Meaning, laid_at, length_at, place_at, size_of}
use Rattle.runs.specs.Editions.{depth_of}
use Rattle.runs.specs.Replies.{reply, reply_by}
use Rattle.runs.specs.declared.calls.Answer.TheVariants.{Counted, Ended, Measured, Number, Opened, Placed, Shown}
use Rattle.runs.proofs.Performing.{asked, asked_by, did, pour_does, print_does, pull_does, text_does}
use Rattle.runs.proofs.session.Session.perform.Goals as goal

pub returns-in-Print-clause-does : goal.returns-in-Print-clause-does
returns-in-Print-clause-does g c =
    let s = c.args.self.now in
    let b = s.buffer.now in
    let end = c.min-end.result in
    let n = g.P.Printer.printed s.printer.now in
    did c.in-Print.is b c.print.new.buffer end (omega (arith, c.min-end.ensures, c.room.ensures)) c.print.auto.buffer (λ few. print_does c.in-Print.room n _ (take end b) c.print.new.buffer s.plan.now c.print.new.plan c.print.result c.said.result few c.print.ensures.prints c.said.ensures)

pub returns-in-PullBack-clause-does : goal.returns-in-PullBack-clause-does
returns-in-PullBack-clause-does g c =
    let s = c.args.self.now in
    let b = s.buffer.now in
    let end = c.min-end.result in
    let n = g.P.Printer.printed s.printer.now in
    did c.in-PullBack.is b (take end b) end (omega (arith, c.min-end.ensures, c.room.ensures)) refl (λ few. pull_does (g.P.Printer.edition s.printer.now) n _ c.in-PullBack.side (take end b) s.plan.now c.pull_back.result c.told.result (search rules) c.pull_back.ensures.answer c.pull_back.ensures.count)

pub returns-in-Opening-clause-does : goal.returns-in-Opening-clause-does
returns-in-Opening-clause-does g c =
    let s = c.args.self.now in
    let b = s.buffer.now in
    let end = c.min-end.result in
    let n = g.P.Printer.printed s.printer.now in
    did c.in-Opening.is b c.opening.new.buffer end (omega (arith, c.min-end.ensures, c.room.ensures)) c.opening.auto.buffer (λ few. text_does Opened (λ x. record { same = λ n. refl; unprinted = refl }) (g.P.Printer.edition s.printer.now).opening (depth_of (g.P.Printer.edition s.printer.now)) c.in-Opening.room n (take end b) c.opening.new.buffer s.plan.now c.opening.result c.said-in-Opening.result few refl refl c.opening.ensures c.said-in-Opening.ensures)

pub returns-in-Ending-clause-does : goal.returns-in-Ending-clause-does
returns-in-Ending-clause-does g c =
    let s = c.args.self.now in
    let b = s.buffer.now in
    let end = c.min-end.result in
    let n = g.P.Printer.printed s.printer.now in
    did c.in-Ending.is b c.ending.new.buffer end (omega (arith, c.min-end.ensures, c.room.ensures)) c.ending.auto.buffer (λ few. text_does Ended (λ x. record { same = λ n. refl; unprinted = refl }) (g.P.Printer.edition s.printer.now).ending (depth_of (g.P.Printer.edition s.printer.now)) c.in-Ending.room n (take end b) c.ending.new.buffer s.plan.now c.ending.result c.said-in-Ending.result few refl refl c.ending.ensures c.said-in-Ending.ensures)

pub returns-in-HowFar-clause-does : goal.returns-in-HowFar-clause-does
returns-in-HowFar-clause-does g c =
    let s = c.args.self.now in
    let b = s.buffer.now in
    let end = c.min-end.result in
    let n = g.P.Printer.printed s.printer.now in
    did c.in-HowFar.is b (take end b) end (omega (arith, c.min-end.ensures, c.room.ensures)) refl (λ few. asked n (take end b) s.plan.now (Counted c.how_far.result) c.from.result c.from.ensures (record { same = λ n. refl; unprinted = refl }) (ap (λ z. reply (Counted z) []) c.how_far.ensures))

pub returns-in-Size-clause-does : goal.returns-in-Size-clause-does
returns-in-Size-clause-does g c =
    let s = c.args.self.now in
    let b = s.buffer.now in
    let end = c.min-end.result in
    let n = g.P.Printer.printed s.printer.now in
    did c.in-Size.is b (take end b) end (omega (arith, c.min-end.ensures, c.room.ensures)) refl (λ few. asked n (take end b) s.plan.now (Measured c.size.result) c.from-in-Size.result c.from-in-Size.ensures (record { same = λ n. refl; unprinted = refl }) (ap (λ z. reply (Measured z) []) c.size.ensures))

pub returns-in-Leaves-clause-does : goal.returns-in-Leaves-clause-does
returns-in-Leaves-clause-does g c =
    let s = c.args.self.now in
    let b = s.buffer.now in
    let end = c.min-end.result in
    let n = g.P.Printer.printed s.printer.now in
    did c.in-Leaves.is b (take end b) end (omega (arith, c.min-end.ensures, c.room.ensures)) refl (λ few. asked n (take end b) s.plan.now (Number c.leaves.result) c.from-in-Leaves.result c.from-in-Leaves.ensures (record { same = λ n. refl; unprinted = refl }) (ap (λ z. reply (Number z) []) c.leaves.ensures))

pub returns-in-Pages-clause-does : goal.returns-in-Pages-clause-does
returns-in-Pages-clause-does g c =
    let s = c.args.self.now in
    let b = s.buffer.now in
    let end = c.min-end.result in
    let n = g.P.Printer.printed s.printer.now in
    did c.in-Pages.is b (take end b) end (omega (arith, c.min-end.ensures, c.room.ensures)) refl (λ few. asked n (take end b) s.plan.now (Number c.pages.result) c.from-in-Pages.result c.from-in-Pages.ensures (record { same = λ n. refl; unprinted = refl }) (ap (λ z. reply (Number z) []) c.pages.ensures))

pub returns-in-Depth-clause-does : goal.returns-in-Depth-clause-does
returns-in-Depth-clause-does g c =
    let s = c.args.self.now in
    let b = s.buffer.now in
    let end = c.min-end.result in
    let n = g.P.Printer.printed s.printer.now in
    did c.in-Depth.is b (take end b) end (omega (arith, c.min-end.ensures, c.room.ensures)) refl (λ few. asked n (take end b) s.plan.now (Number c.from-in-Depth.result) c.from-in-Depth-2.result c.from-in-Depth-2.ensures (record { same = λ n. refl; unprinted = refl }) (ap (λ z. reply (Number z) []) (c.from-in-Depth.ensures ∙ c.depth.ensures)))

pub returns-in-Cell-clause-does : goal.returns-in-Cell-clause-does
returns-in-Cell-clause-does g c =
    let s = c.args.self.now in
    let b = s.buffer.now in
    let end = c.min-end.result in
    let n = g.P.Printer.printed s.printer.now in
    did c.in-Cell.is b (take end b) end (omega (arith, c.min-end.ensures, c.room.ensures)) refl (λ few. asked_by Shown (λ x. record { same = λ n. refl; unprinted = refl }) n (take end b) s.plan.now c.cell.result c.told-in-Cell.result c.told-in-Cell.ensures (ap (reply_by Shown) c.cell.ensures))

pub returns-in-Laid-clause-does : goal.returns-in-Laid-clause-does
returns-in-Laid-clause-does g c =
    let s = c.args.self.now in
    let b = s.buffer.now in
    let end = c.min-end.result in
    let n = g.P.Printer.printed s.printer.now in
    did c.in-Laid.is b (take end b) end (omega (arith, c.min-end.ensures, c.room.ensures)) refl (λ few. asked_by Number (λ x. record { same = λ n. refl; unprinted = refl }) n (take end b) s.plan.now c.laid.result c.told-in-Laid.result c.told-in-Laid.ensures (ap (reply_by Number) (c.laid.ensures)))

pub returns-in-Place-clause-does : goal.returns-in-Place-clause-does
returns-in-Place-clause-does g c =
    let s = c.args.self.now in
    let b = s.buffer.now in
    let end = c.min-end.result in
    let n = g.P.Printer.printed s.printer.now in
    did c.in-Place.is b (take end b) end (omega (arith, c.min-end.ensures, c.room.ensures)) refl (λ few. asked_by Placed (λ x. record { same = λ n. refl; unprinted = refl }) n (take end b) s.plan.now c.place.result c.told-in-Place.result c.told-in-Place.ensures (ap (reply_by Placed) (c.place.ensures)))

pub returns-in-Length-clause-does : goal.returns-in-Length-clause-does
returns-in-Length-clause-does g c =
    let s = c.args.self.now in
    let b = s.buffer.now in
    let end = c.min-end.result in
    let n = g.P.Printer.printed s.printer.now in
    did c.in-Length.is b (take end b) end (omega (arith, c.min-end.ensures, c.room.ensures)) refl (λ few. asked_by Number (λ x. record { same = λ n. refl; unprinted = refl }) n (take end b) s.plan.now c.length.result c.told-in-Length.result c.told-in-Length.ensures (ap (reply_by Number) (c.length.ensures)))

pub returns-in-Pour-clause-does : goal.returns-in-Pour-clause-does
returns-in-Pour-clause-does g c =
    let s = c.args.self.now in
    let b = s.buffer.now in
    let end = c.min-end.result in
    let n = g.P.Printer.printed s.printer.now in
    did c.in-Pour.is b c.pour.new.buffer end (omega (arith, c.min-end.ensures, c.room.ensures)) c.pour.auto.buffer (λ few. pour_does (g.P.Printer.edition s.printer.now) c.in-Pour.leaf c.in-Pour.at (take end b) c.pour.new.buffer c.in-Pour.room n s.plan.now c.pour.result c.said-in-Pour.result few c.pour.ensures.answer c.pour.ensures.after c.said-in-Pour.ensures)
