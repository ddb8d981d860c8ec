use Rattle.std.proofs.Common.{true, [], ◌++◌, ◌∷◌, codes, decimal, is_some, sym, ◌∙◌, subst, append_assoc}
use Rattle.text.proofs.Taking.{refused, refused_first}
use Rattle.listing.specs.Inks.{escaped, shown_line}
use Rattle.listing.proofs.Inking.{line_parts}
use Rattle.listing.proofs.inks.put_line.Goals as goal

pub returns-in_err-put_pieces : goal.returns-in_err-put_pieces
returns-in_err-put_pieces g c =
    let laws = g.met.O.Sink in
    let start = codes "36 " ++ (decimal c.baseline.result ++ (codes " moveto (" ++ [])) in
    let end = codes ") show" ++ 10 ∷ [] in
    let more = escaped c.args.line.now ++ end in
    refused_first laws.both laws.short start more (shown_line c.args.i c.args.line.now)
    (sym (append_assoc start (escaped c.args.line.now) end) ∙ line_parts c.args.i c.baseline.result c.args.line.now c.baseline.ensures) c.from_residual.ensures c.in_err-put_pieces.ensures

pub returns-in_err-take_escaped : goal.returns-in_err-take_escaped
returns-in_err-take_escaped g c =
    let laws = g.met.O.Sink in
    refused laws.both laws.short _ (escaped c.args.line.now) _ _ (line_parts c.args.i c.baseline.result c.args.line.now c.baseline.ensures) c.from_residual-in_err-take_escaped.ensures c.in_ok-put_pieces.ensures c.in_err-take_escaped.ensures

pub returns : goal.returns
returns g c =
    let laws = g.met.O.Sink in
    subst (λ text. g.O.Sink.takes c.args.out.now text (is_some c.take.result) c.take.new.self) (line_parts c.args.i c.baseline.result c.args.line.now c.baseline.ensures)
    (laws.both _ _ _ _ _ _ (laws.both _ _ _ _ _ true c.in_ok-put_pieces.ensures c.in_ok-take_escaped.ensures) c.take.ensures)
