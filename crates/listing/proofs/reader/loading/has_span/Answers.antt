use Rattle.std.proofs.Common.{eqb, sym, ap, ◌∙◌, eq-eqb}
use Rattle.std.proofs.lemmas.Bool.{and_from, and_parts, eqb-true}
use Rattle.listing.proofs.Spans.{some_same}
use Rattle.listing.proofs.reader.loading.has_span.Goals as goal

pub returns : goal.returns
returns c =
    let s = c.args.span in
    let at = c.at.ensures s in
    let same = some_same _ s (λ t. (
      (λ e.
          let p = and_parts (eqb t.offset s.offset) (eqb t.length s.length) e in
          (λ i. record { offset = eqb-true t.offset s.offset p.0 i; length = eqb-true t.length s.length p.1 i })),
      (λ e. and_from (eqb t.offset s.offset) (eqb t.length s.length) (eq-eqb t.offset s.offset (ap (λ r. r.offset) e)) (eq-eqb t.length s.length (ap (λ r. r.length) e))),
    )) c.at.result in
    ((λ e. at.0 (same.0 (sym c.eq.ensures ∙ e))), (λ e. c.eq.ensures ∙ same.1 (at.1 e)))
