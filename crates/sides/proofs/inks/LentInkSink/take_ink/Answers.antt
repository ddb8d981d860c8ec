use Rattle.std.proofs.Common.{◌≡◌, true, [], None, sym, refl, subst, ◌∙◌, ap, add-zero, arith}
use Rattle.std.specs.Result.{result_ok}
use Rattle.text.specs.Sinking.{filled_nothing}
use Rattle.text.specs.Sinks.{Filled}
use Rattle.text.specs.Splicing.{splice_none}
use Rattle.text.proofs.Taking.{not_filled}
use Rattle.sides.specs.Texts.{ink_of}
use Rattle.sides.proofs.Leaves.{no_ink, unpoured}
use Rattle.sides.proofs.inks.LentInkSink.take_ink.Goals as goal

pub returns-then-leaves-leaf : goal.returns-then-leaves-leaf
returns-then-leaves-leaf g c =
    let m = g.S.Source.meaning c.args.source.now in
    let s = c.args.self.now in
    subst (λ ink. Filled s ink true s) (sym (no_ink m c.args.leaf (omega (arith, c.leaves.ensures)))) (filled_nothing s)

pub returns-in_err-self : goal.returns-in_err-self
returns-in_err-self g c =
    let m = g.S.Source.meaning c.args.source.now in
    let s = c.args.self.now in
    let n : result_ok c.pour.result ≡ None = sym c.in_err-self.ensures.value in
    let u = unpoured m c.args.leaf (omega (arith, c.leaves.ensures, c.if-leaves-leaf.false)) s.buffer.now c.pour.new.buffer s.at c.pour.ensures.after (ap result_ok (sym c.pour.ensures.answer) ∙ n) in
    not_filled (ink_of m c.args.leaf) c.from_residual.ensures (record {
      short = u.0;
      front = [];
      rest = ink_of m c.args.leaf;
      parts = refl;
      holds = u.1 ∙ sym (splice_none s.buffer.now s.at);
      ends = sym (add-zero s.at);
      same = refl;
    })
