use Rattle.std.proofs.Common.{◌≡◌, ℕ, ◌+◌, List, ◌++◌, take, drop, ap, ◌∙◌, append_assoc}
use Rattle.std.specs.List.{flat_map}
use Rattle.text.specs.Pieces.{spelled_all}
use Rattle.text.proofs.Joins.{joined_all}
use Rattle.text.proofs.Taking.{refused}
use Rattle.sides.specs.Texts.{part_text, showpage}
use Rattle.sides.proofs.texts.put_parts.Goals as goal

regroup : (a b y r s f : List ℕ) → (b ++ y) ++ r ≡ f → ((a ++ b) ++ y) ++ (r ++ s) ≡ a ++ (f ++ s)
regroup a b y r s f e = let l : ((a ++ b) ++ y) ++ (r ++ s) ≡ a ++ (((b ++ y) ++ r) ++ s) = simp append_assoc in l ∙ ap (λ z. a ++ (z ++ s)) e

pub returns-in_err-put_position : goal.returns-in_err-put_position
returns-in_err-put_position g c =
    let laws = g.met.O.Sink in
    let f = part_text (g.S.Source.meaning c.args.below.now) in
    let ps = c.args.positions.now in
    let i = c.loop-position.position-index in
    let head = spelled_all c.page_line.result in
    let e = regroup head (flat_map f (take i ps)) _ (flat_map f (drop (i + 1) ps)) showpage (flat_map f ps) (joined_all f ps i _ c.loop-position-test.true) in
    refused laws.both laws.short (head ++ flat_map f (take i ps)) _ (flat_map f (drop (i + 1) ps) ++ showpage) _
    (e ∙ ap (λ z. z ++ (flat_map f ps ++ showpage)) c.page_line.ensures) c.from_residual-in_err-put_position.ensures
    (laws.both _ _ _ head (flat_map f (take i ps)) _ c.in_ok-put_pieces.ensures c.loop-position.invariant.1) c.in_err-put_position.ensures
