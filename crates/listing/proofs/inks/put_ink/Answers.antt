use Rattle.std.proofs.Common.{true, ◌++◌, length, inl, sym, refl, ap, ◌∙◌, append_assoc, append-nil, subst, arith}
use Rattle.text.proofs.Taking.{refused, refused_first}
use Rattle.listing.specs.Inks.{font, ink_of, shown_line, shown_lines}
use Rattle.listing.specs.Pages.{cut}
use Rattle.listing.proofs.Inking.{shown_next}
use Rattle.listing.proofs.Spans.{extent_cut, length_extent}
use Rattle.listing.proofs.inks.put_ink.Goals as goal

pub returns-in_err-take : goal.returns-in_err-take
returns-in_err-take g c =
    let laws = g.met.O.Sink in
    refused_first laws.both laws.short font (shown_lines 0 (cut 10 c.args.page.now)) (ink_of c.args.page.now) refl c.from_residual.ensures c.in_err-take.ensures

pub loop-i-init-derived : goal.loop-i-init-derived
loop-i-init-derived g c =
    let none = ap (λ e. e.count) c.into_iter-i-iterator.ensures.into_iter_gives ∙ c.enumerate-i-items.ensures.count in
    let p = c.into_iter-i-iterator.result.iter in
    let q = ap (λ e. e.iter) c.into_iter-i-iterator.ensures.into_iter_gives ∙ c.enumerate-i-items.ensures.source in
    let b = ap (λ q. length q.rest.now) q ∙ ap length c.new.ensures.bytes in
    ((tt, tt, inl (omega (arith, none, b, extent_cut p.separator p.rest.now, length_extent (cut p.separator p.rest.now)))), tt)

pub loop-i-preserved : goal.loop-i-preserved
loop-i-preserved g c =
    let inv = c.loop-i.invariant in
    let n = c.in-Some.ensures.steps in (
      inv.0 ++ shown_line c.in-Some.i c.in-Some.line.now,
      g.met.O.Sink.both _ _ _ _ _ true inv.1 c.in_ok-put_line.ensures,
      shown_next inv.0 _ _ _ _ _ _ c.in-Some.line.now inv.2 n.0 n.1 n.2,
    )

pub returns-in_err-put_line : goal.returns-in_err-put_line
returns-in_err-put_line g c =
    let laws = g.met.O.Sink in
    let inv = c.loop-i.invariant in
    let n = c.in-Some.ensures.steps in
    let line = shown_line c.in-Some.i c.in-Some.line.now in
    let rest = c.next.new.self.iter in
    let more = shown_lines c.next.new.self.count (cut rest.separator rest.rest.now) in
    refused laws.both laws.short (font ++ inv.0) line more (ink_of c.args.page.now)
    (ap (λ z. z ++ more) (append_assoc font inv.0 line) ∙ append_assoc font (inv.0 ++ line) more
    ∙ ap (λ z. font ++ z) (shown_next inv.0 _ _ _ _ _ _ c.in-Some.line.now inv.2 n.0 n.1 n.2))
    c.from_residual-in_err-put_line.ensures (laws.both _ _ _ _ _ true c.in_ok-take.ensures inv.1) c.in_err-put_line.ensures

pub returns : goal.returns
returns g c =
    let inv = c.loop-i.invariant in
    let all = sym (append-nil inv.0) ∙ ap (λ ls. inv.0 ++ shown_lines c.loop-i.i-iterator.count ls) (sym c.in-None.ensures.steps.0.0) ∙ inv.2 in
    subst (λ xs. g.O.Sink.takes c.args.out.now (font ++ xs) true c.loop-i.out) all (g.met.O.Sink.both _ _ _ _ _ true c.in_ok-take.ensures inv.1)
