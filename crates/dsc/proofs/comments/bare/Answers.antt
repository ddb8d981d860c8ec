use Rattle.std.proofs.Common.{length, sym, ap, ◌∙◌, arith}
use Rattle.std.proofs.lemmas.Bool.{eqb-true, eqb-false}
use Rattle.std.specs.List.{list_any}
use Rattle.dsc.proofs.Labels.{plain_empty, plain_left, plain_right, plain_word, plain_parts}
use Rattle.dsc.proofs.comments.bare.Goals as goal
use Rattle.dsc.proofs.comments.bare.Goals.{then-is_empty-via-then-is_empty, then-is_empty-via-else-is_empty+then-contains, then-is_empty-via-else-is_empty+else-contains+then-contains-2}

pub returns-then-is_empty : goal.returns-then-is_empty
returns-then-is_empty c =
    let s = c.args.s.now in
    let same = c.word.ensures.0 in
    elim c.then-is_empty.branch [
      | then-is_empty-via-then-is_empty w ↦ plain_empty s (sym (ap length same) ∙ eqb-true _ _ (sym c.is_empty.ensures ∙ w.if-is_empty.true))
      | then-is_empty-via-else-is_empty+then-contains w ↦ plain_left s (sym (ap (list_any _) same) ∙ sym w.contains.ensures.value ∙ w.if-contains.true)
      | then-is_empty-via-else-is_empty+else-contains+then-contains-2 w ↦ plain_right s (sym (ap (list_any _) same) ∙ sym w.contains.ensures.value ∙ w.if-contains.false) (sym (ap (list_any _) same) ∙ sym w.contains-else-contains.ensures.value ∙ w.if-contains-2.true)
    ]

pub returns : goal.returns
returns c =
    let s = c.args.s.now in
    let same = c.word.ensures.0 in
    let parts = plain_parts s c.requires in
    let long = plain_word s (sym (ap (list_any _) same) ∙ sym c.contains.ensures.value ∙ c.if-contains.false) (sym (ap (list_any _) same) ∙ sym c.contains-else-contains.ensures.value ∙ c.if-contains-2.false) in
    rw long (omega (arith, sym (ap length same), eqb-false _ _ (sym c.is_empty.ensures ∙ c.if-is_empty.false)), same ∙ parts.0, c.word.ensures.1 ∙ parts.1)
