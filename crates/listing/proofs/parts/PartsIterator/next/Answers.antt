use Rattle.std.proofs.Common.{◌+◌, length, take, drop, refl, ap, ◌∙◌, arith}
use Rattle.text.proofs.Searches.{until_le}
use Rattle.listing.proofs.Cuts.{cut_split, rest_after, some_bytes}
use Rattle.listing.proofs.parts.PartsIterator.next.Goals as goal

pub overflow_add-end : goal.overflow_add-end
overflow_add-end c = omega (arith, c.before-end.ensures, until_le c.args.self.now.separator c.args.self.now.rest.now)

pub returns-clause-steps : goal.returns-clause-steps
returns-clause-steps c =
    let s = c.args.self.now in
    let some = some_bytes s.rest.now c.if-is_empty.ensures in
    let rest = ap (λ b. b.now) c.unwrap_or-self.ensures ∙ rest_after s.rest.now (c.before-end.result + 1) _ c.get.result refl c.get.ensures.lookup.0 in
    cut_split s.separator s.rest.now _ _ some (ap (λ n. take n s.rest.now) c.before-end.ensures) (rest ∙ ap (λ n. drop (n + 1) s.rest.now) c.before-end.ensures)

pub returns-clause-goes : goal.returns-clause-goes
returns-clause-goes c = record { on = λ _. (tt, tt, omega (arith, ap length (returns-clause-steps c))); keeps = tt; rests = λ _. tt }
