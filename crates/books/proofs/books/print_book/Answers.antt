use Rattle.std.proofs.Common.{ap, ◌∙◌, subst}
use Rattle.pages.specs.Meaning.{Meaning}
use Rattle.fold.specs.Signatures.{letters_of}
use Rattle.job.specs.Books.{book_in, book_of}
use Rattle.runs.proofs.Running.{Ordered}
use Rattle.books.specs.Runs.{CarriedOut}
use Rattle.books.proofs.Printing.{book_printed}
use Rattle.books.proofs.Rooms.{fits}
use Rattle.books.proofs.books.print_book.Goals as goal

pub returns : goal.returns
returns g c =
    let meaning = g.S.Source.meaning in
    let m = meaning c.args.source in
    let o = c.in_ok-order.ensures in
    let l = c.order.new.self in
    let start = c.new-layer.ensures.0 in
    let laid = subst (λ (z : Meaning). Ordered c.args.order z l.rule l.extent) (ap meaning start) o.2 in
    let same = ap (book_in meaning) c.new-job.ensures.0 ∙ ap (λ z. book_of l.rule.signature (meaning z) l.extent) (o.0 ∙ start) in
    let f = fits c.args.order m (g.met.S.Source.lawful c.args.source) l.rule l.extent laid (book_in meaning c.new-job.result.layer) same
    c.room-room.result c.plan_length-list.result c.sides.result c.room-room.ensures c.plan_length-list.ensures c.sides.ensures in
    let back = c.take_off-source.ensures ∙ ap (λ z. z.below) (c.take_apart.ensures ∙ c.new-job.ensures.0) ∙ o.0 ∙ start in
    book_printed c.args.order m (letters_of laid.taken.signature) laid.taken.word c.room-room.result c.plan_length-list.result c.sides.result f
    c.deref.result.now (c.deref.ensures.value ∙ c.in_ok-calls.ensures) c.carry_out.result
    (subst (λ (z : Meaning). CarriedOut c.args.order z c.deref.result.now c.room-room.result c.plan_length-list.result c.carry_out.result) (ap meaning back) c.carry_out.ensures)
