use Rattle.std.proofs.Common.{◌∷◌, vec_items, ap, ◌∙◌}
use Rattle.runs.specs.History.{event}
use Rattle.runs.specs.Logs.{backwards}
use Rattle.runs.specs.Replies.{reply}
use Rattle.runs.proofs.Noting.{history_push}
use Rattle.runs.proofs.log.Log.note.Goals as goal

pub returns : goal.returns
returns c =
    let xs = vec_items c.args.self.now.entries in
    ap backwards c.in_ok-push.ensures.items ∙ history_push xs _ ∙ ap (λ t. event c.args.call (reply c.args.answer t) ∷ backwards xs) c.in_ok-text.ensures.items
