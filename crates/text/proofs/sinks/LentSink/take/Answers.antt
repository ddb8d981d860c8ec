use Rattle.std.proofs.Common.{◌≡◌, [], None, sym, refl, ap, ◌∙◌, add-zero}
use Rattle.std.specs.Result.{result_ok}
use Rattle.text.specs.Splicing.{splice_none}
use Rattle.text.proofs.Taking.{not_filled, unwritten}
use Rattle.text.proofs.sinks.LentSink.take.Goals as goal

pub returns-in_err-self : goal.returns-in_err-self
returns-in_err-self c =
    let s = c.args.self.now in
    let text = c.args.bytes.now in
    let n : result_ok c.write.result ≡ None = sym c.in_err-self.ensures.value in
    let u = unwritten text s.buffer.now c.write.new.buffer s.at c.write.ensures.after (ap result_ok (sym c.write.ensures.answer) ∙ n) in
    not_filled text c.from_residual.ensures (record {
      short = u.0;
      front = [];
      rest = text;
      parts = refl;
      holds = u.1 ∙ sym (splice_none s.buffer.now s.at);
      ends = sym (add-zero s.at);
      same = refl;
    })
