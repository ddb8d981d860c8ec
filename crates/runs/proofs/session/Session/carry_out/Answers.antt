use Rattle.std.proofs.Common.{ℕ, List, sym, subst}
use Rattle.runs.specs.History.{Performed, event}
use Rattle.runs.specs.Logs.{history}
use Rattle.runs.specs.Replies.{reply}
use Rattle.runs.specs.Steps.{state_of}
use Rattle.runs.proofs.Histories.{stands_step}
use Rattle.runs.proofs.Noting.{noted}
use Rattle.runs.proofs.session.Session.carry_out.Goals as goal

pub returns-clause-carried : goal.returns-clause-carried
returns-clause-carried g c =
    let printed = g.P.Printer.printed in
    let edition = g.P.Printer.edition c.args.self.now.printer.now in
    let s = c.args.self.now in
    let d = c.perform-answer in
    let t = d.new.self in
    let r = d.result in
    noted edition (state_of printed s) (history c.args.log.now) (state_of printed t) (history c.note.new.self) (event c.args.call (reply r.answer c.part.result.now))
    (λ b p st. stands_step (g.met.P.Printer.even s.printer.now) st
    (subst (λ (text : List ℕ). Performed edition c.args.call (state_of printed s) (state_of printed t) (reply r.answer text)) (sym c.part.ensures) d.ensures.does.performed)
    d.ensures.sized.0 d.ensures.sized.1)
    c.note.result c.note.ensures
