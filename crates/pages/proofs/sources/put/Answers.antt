use Rattle.std.proofs.Common.{◌≡◌, ℕ, ◌+◌, ◌-◌, List, ◌++◌, length, take, drop, ap, ◌∙◌, arith}
use borrow.Rule.Slice.PartMut.{put_mid, Post-is}
use Rattle.pages.specs.Splice.{splice}
use Rattle.pages.proofs.sources.put.Goals as goal

put_is : {X : Type 0} (i : ℕ) (b bs x : List X) → x ≡ bs → put_mid i (i + length bs - i) b x ≡ splice b i bs
unfolding splice
put_is i b bs x e =
    ap (λ y. take i b ++ (y ++ drop (i + length bs - i) (drop i b))) e
    ∙ ap (λ l. take i b ++ (bs ++ l)) (Post-is i (i + length bs) b (omega arith))

pub returns : goal.returns
returns g c = put_is c.args.at c.args.buffer.now c.args.items.now c.copy_from_slice.new.self c.copy_from_slice.ensures.after
