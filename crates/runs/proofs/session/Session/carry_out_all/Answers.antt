use Rattle.std.proofs.Common.{◌∙◌, arith}
use Rattle.std.proofs.lemmas.Result.{err_from_is_err_and}
use Rattle.runs.specs.History.{calls_of}
use Rattle.runs.specs.Logs.{history}
use Rattle.runs.proofs.Noting.{breaks, broken_of, calls_next, carried_err, kept_of}
use Rattle.runs.proofs.session.Session.carry_out_all.Goals as goal

pub returns-in_err-carry_out-clause-carried : goal.returns-in_err-carry_out-clause-carried
returns-in_err-carry_out-clause-carried g c =
    let first = c.args.self.now in
    let last = c.loop-call.self in
    let i = c.loop-call.invariant in
    let h = c.in_err-carry_out.ensures in
    let failed = err_from_is_err_and c.from_residual.result c.from_residual.ensures.1 in
    carried_err (history c.args.log.now) (history c.carry_out.new.log) c.from_residual.result _ failed.1
    (breaks (history c.args.log.now) (history c.loop-call.log) (history c.carry_out.new.log) c.args.calls.now c.loop-call.call-index _ c.loop-call-test.true
    (broken_of (history c.loop-call.log) (history c.carry_out.new.log) (g.met.P.Printer.constant first.printer.now last.printer.now i.same) h.carried) i.kept i.calls)

pub loop-call-preserved : goal.loop-call-preserved
loop-call-preserved g c =
    let first = c.args.self.now in
    let last = c.loop-call.self in
    let next = c.carry_out.new.self in
    let i = c.loop-call.invariant in
    let h = c.in_ok-carry_out.ensures in
    record {
      index = omega arith;
      lent = (h.lent.0 ∙ i.lent.0, h.lent.1 ∙ i.lent.1, h.lent.2 ∙ i.lent.2);
      same = g.met.P.Printer.transitive first.printer.now last.printer.now next.printer.now i.same h.same;
      kept = λ b p st. kept_of (history c.loop-call.log) (history c.carry_out.new.log) (g.met.P.Printer.constant first.printer.now last.printer.now i.same) h.carried.kept b p (i.kept b p st);
      calls = calls_next (calls_of (history c.args.log.now)) c.args.calls.now c.loop-call.call-index _ c.loop-call-test.true h.carried.calls i.calls;
    }
