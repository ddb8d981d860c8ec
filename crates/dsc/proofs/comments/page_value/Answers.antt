use Rattle.std.proofs.Common.{sym, ap, ◌∙◌}
use Rattle.dsc.specs.Values.{trim}
use Rattle.dsc.proofs.Labels.{trim_twice}
use Rattle.dsc.proofs.comments.page_value.Goals as goal

pub label-requires : goal.label-requires
label-requires c = ap trim c.trimmed.ensures ∙ trim_twice c.args.value.now ∙ sym c.trimmed.ensures
