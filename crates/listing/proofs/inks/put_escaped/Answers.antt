use Rattle.std.proofs.Common.{◌≡◌, ◌+◌, [], ◌++◌, length, get_or, drop, sym, refl, ap, ◌∙◌, append_assoc, append-nil, arith, length-append}
use Rattle.std.proofs.lemmas.List.{at_drop_more, at_drop_all}
use Rattle.text.proofs.Splices.{and_then, wrote_as, wrote_none}
use Rattle.listing.specs.Inks.{escape, escaped}
use Rattle.listing.proofs.inks.put_escaped.Goals as goal

pub loop-b-init : goal.loop-b-init
loop-b-init c = ([], wrote_none _ _, refl)

pub put_escape-end-requires : goal.put_escape-end-requires
put_escape-end-requires c =
    let line = c.args.line.now in
    let i = c.loop-b.b-index in
    let xs = c.loop-b.invariant.0 in
    let next : xs ++ (escape (get_or line i 0) ++ escaped (drop (i + 1) line)) ≡ escaped line =
    ap (λ e. xs ++ e) (sym (at_drop_more escaped line i 0 c.loop-b-test.true)) ∙ c.loop-b.invariant.2 in
    omega (
      arith,
      c.loop-b.invariant.1.ends,
      c.loop-b.auto.buffer,
      c.requires,
      ap length next,
      length-append xs (escape (get_or line i 0) ++ escaped (drop (i + 1) line)),
      length-append (escape (get_or line i 0)) (escaped (drop (i + 1) line)),
    )

pub loop-b-preserved : goal.loop-b-preserved
loop-b-preserved c =
    let line = c.args.line.now in
    let i = c.loop-b.b-index in
    let xs = c.loop-b.invariant.0 in (
      xs ++ escape (get_or line i 0),
      and_then (omega (arith, c.requires)) c.loop-b.invariant.1 c.put_escape-end.ensures,
      append_assoc xs (escape (get_or line i 0)) (escaped (drop (i + 1) line))
          ∙ ap (λ e. xs ++ e) (sym (at_drop_more escaped line i 0 c.loop-b-test.true)) ∙ c.loop-b.invariant.2,
    )

pub returns : goal.returns
returns c =
    let line = c.args.line.now in
    let xs = c.loop-b.invariant.0 in
    wrote_as (escaped line) (sym (append-nil xs) ∙ ap (λ e. xs ++ e) (sym (at_drop_all escaped line c.loop-b.b-index c.loop-b-test.false)) ∙ c.loop-b.invariant.2) c.loop-b.invariant.1
