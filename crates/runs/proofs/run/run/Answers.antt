use Rattle.std.proofs.Common.{ap, ◌∙◌, subst, rules}
use Rattle.pages.specs.Meaning.{Meaning}
use Rattle.job.specs.Books.{book_in, book_of}
use Rattle.runs.specs.Jobs.{edition}
use Rattle.runs.specs.Logs.{history}
use Rattle.runs.specs.Runs.{Finished, Stopped}
use Rattle.runs.proofs.Running.{Ordered, finished, stopped}
use Rattle.runs.proofs.run.run.Goals as goal

pub returns-in_err-carry_out_all-clause-law : goal.returns-in_err-carry_out_all-clause-law
returns-in_err-carry_out_all-clause-law g c =
    let meaning = g.S.Source.meaning in
    let m = meaning c.args.source in
    let o = c.in_ok-order.ensures in
    let l = c.order.new.self in
    let start = c.new-layer.ensures.0 in
    let h : Stopped c.args.order m c.args.calls.now c.args.buffer.now c.carry_out_all.new.self.buffer.now c.args.plan.now c.carry_out_all.new.self.plan.now =
    stopped c.args.order m (g.met.S.Source.lawful c.args.source) l.rule l.extent
    (subst (λ (z : Meaning). Ordered c.args.order z l.rule l.extent) (ap meaning start) o.2)
    _
    (ap (λ z. edition (book_in meaning z)) c.new-job.ensures.0 ∙ ap (λ z. edition (book_of l.rule.signature (meaning z) l.extent)) (o.0 ∙ start))
    c.new-job.ensures.1 (history c.new-log.result) c.new-log.ensures (history c.carry_out_all.new.log) c.in_err-carry_out_all.ensures.carried in
    search rules

pub returns-clause-law : goal.returns-clause-law
returns-clause-law g c =
    let meaning = g.S.Source.meaning in
    let m = meaning c.args.source in
    let o = c.in_ok-order.ensures in
    let l = c.order.new.self in
    let start = c.new-layer.ensures.0 in
    let h : Finished c.args.order m c.args.calls.now c.args.buffer.now c.carry_out_all.new.self.buffer.now c.args.plan.now c.carry_out_all.new.self.plan.now c.carry_out_all.new.self.printer.now.printed (history c.carry_out_all.new.log) =
    finished c.args.order m (g.met.S.Source.lawful c.args.source) l.rule l.extent
    (subst (λ (z : Meaning). Ordered c.args.order z l.rule l.extent) (ap meaning start) o.2)
    _
    (ap (λ z. edition (book_in meaning z)) c.new-job.ensures.0 ∙ ap (λ z. edition (book_of l.rule.signature (meaning z) l.extent)) (o.0 ∙ start))
    c.new-job.ensures.1 (history c.new-log.result) c.new-log.ensures (history c.carry_out_all.new.log) c.in_ok-carry_out_all.ensures.carried in
    search rules
