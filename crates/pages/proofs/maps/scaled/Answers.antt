use Rattle.std.proofs.Common.{ℤ, sym, ◌∙◌, subst, w64, SFits}
use Rattle.std.proofs.lemmas.Int.{to_z-of_z}
use Rattle.pages.proofs.Scaling.{summed}
use Rattle.pages.proofs.maps.scaled.Goals as goal

pub overflow_add-result : goal.overflow_add-result
overflow_add-result c =
    let s = summed c.args.n c.args.d c.args.a c.args.b c.requires.small_n c.requires.small_d c.requires.near_a c.requires.near_b in
    subst (λ (z : ℤ). SFits w64 z) (sym s.is) s.whole

pub returns : goal.returns
returns c =
    let s = summed c.args.n c.args.d c.args.a c.args.b c.requires.small_n c.requires.small_d c.requires.near_a c.requires.near_b in
    to_z-of_z w64 _ (overflow_add-result c) ∙ s.is
