use Rattle.std.proofs.Common.{length, take, Err, sym, ap, ◌∙◌, arith}
use Rattle.std.proofs.lemmas.Slice.Eq.{bytes_eq-Decides}
use Rattle.std.proofs.lemmas.Bool.{cond-true, cond-false, lt-ltb, le-ltb}
use Rattle.pages.specs.declared.faults.Fault.{Fault}
use Rattle.dsc.specs.Bounds.{longest, mark}
use Rattle.dsc.proofs.reading.Opened.new.Goals as goal

pub returns-then-file-gt-LONGEST : goal.returns-then-file-gt-LONGEST
returns-then-file-gt-LONGEST c = cond-true _ _ _ (lt-ltb longest (length c.args.file.now) (omega arith)) ∙ ap (λ (f : Fault). Err f) (sym c.new.ensures)

pub returns-then-not-starts_with : goal.returns-then-not-starts_with
returns-then-not-starts_with c = cond-false _ _ _ (le-ltb longest (length c.args.file.now) (omega arith)) ∙ cond-false _ _ _ (sym c.starts_with.ensures.value ∙ c.if-not-starts_with.true) ∙ ap (λ (f : Fault). Err f) (sym c.new-then-not-starts_with.ensures)

pub invariant_of-result-clause-marked : goal.invariant_of-result-clause-marked
invariant_of-result-clause-marked c = sym ((bytes_eq-Decides mark (take 14 c.args.file.now)).0 (sym c.starts_with.ensures.value ∙ c.if-not-starts_with.false))
