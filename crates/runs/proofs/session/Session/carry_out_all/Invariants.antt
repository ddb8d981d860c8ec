use Rattle.std.proofs.Common.{◌≡◌, ◌≤◌, ◌++◌, length, take}
use Rattle.runs.specs.History.{calls_of}
use Rattle.runs.specs.Logs.{Kept, history}
use Rattle.runs.specs.Steps.{Lent, state_of}
use Rattle.runs.proofs.session.Session.carry_out_all.Given as goal

abbrev pub invariant-loop-call : goal.invariant-loop-call
invariant-loop-call g l =
    let printed = g.P.Printer.printed in
    let first = l.initial.self in
    record {
      index : l.call-index ≤ length l.calls;
      lent : Lent first l.self;
      same : g.P.Printer.stays first.printer.now l.self.printer.now;
      kept : Kept (g.P.Printer.edition first.printer.now) (state_of printed first) (history l.initial.log) (state_of printed l.self) (history l.log);
      calls : calls_of (history l.log) ≡ calls_of (history l.initial.log) ++ take l.call-index l.calls;
    }
