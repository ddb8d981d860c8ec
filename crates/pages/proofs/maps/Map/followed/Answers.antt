use Rattle.std.proofs.Common.{◌≡◌, Bool, true, false, cond, Some, None, Option, inl, inr, sym, refl, ap, ◌∙◌, arith}
use Rattle.std.specs.Bool.{then_some}
use Rattle.pages.specs.declared.maps.Map.{Map}
use Rattle.pages.specs.Maps.{fits, followed}
use Rattle.pages.proofs.Scaling.{fit, near_again, far, parts, made_is}
use Rattle.pages.proofs.maps.Map.followed.Goals as goal

-- the answer for a composed map m, by whether it fits
abbrev answer : Map → Bool → Option Map
answer m b = cond b (Some m) None

some_if : (b : Bool) (m : Map) → then_some b m ≡ answer m b
some_if true m = refl
some_if false m = refl

chosen : (r : Option Map) (b : Bool) (m f : Map) → r ≡ then_some b m → b ≡ fits m → m ≡ f → r ≡ answer f (fits f)
chosen r b m f e t is = e ∙ ap (λ c. then_some c m) t ∙ ap (λ n. then_some (fits n) n) is ∙ some_if (fits f) f

pub returns-in_err-product : goal.returns-in_err-product
returns-in_err-product c = c.from_residual.ensures ∙ sym (ap (answer (followed c.args.self c.args.other)) (far (followed c.args.self c.args.other) (inr (omega (arith, c.in_err-product.ensures)))))

pub returns-in_err-product-2 : goal.returns-in_err-product-2
returns-in_err-product-2 c = c.from_residual-in_err-product-2.ensures ∙ sym (ap (answer (followed c.args.self c.args.other)) (far (followed c.args.self c.args.other) (inl (omega (arith, c.in_err-product-2.ensures)))))

pub returns : goal.returns
returns c =
    let p = parts c.args.self c.args.other c.requires.first_fits c.requires.second_fits c.turned-x.result c.turned-x.ensures in
    let e = made_is c.args.self c.args.other c.turned-x.result p (fit c.args.other c.requires.second_fits) c.in_ok-product.field-0 c.in_ok-product-2.field-0 c.scaled.result c.scaled-2.result c.in_ok-product.ensures c.in_ok-product-2.ensures c.scaled.ensures c.scaled-2.ensures in
    chosen _ _ _ _ c.then_some.ensures c.fits.ensures e

pub scaled-requires : goal.scaled-requires
scaled-requires c =
    let g = fit c.args.other c.requires.second_fits in
    let p = parts c.args.self c.args.other c.requires.first_fits c.requires.second_fits c.turned-x.result c.turned-x.ensures in
    record { small_n = p.num_small; small_d = p.den_small; near_a = near_again c.turned-x.result.0 p.near_x; near_b = near_again c.args.other.x g.near_x }

pub scaled-requires-2 : goal.scaled-requires-2
scaled-requires-2 c =
    let g = fit c.args.other c.requires.second_fits in
    let p = parts c.args.self c.args.other c.requires.first_fits c.requires.second_fits c.turned-x.result c.turned-x.ensures in
    record { small_n = p.num_small; small_d = p.den_small; near_a = near_again c.turned-x.result.1 p.near_y; near_b = near_again c.args.other.y g.near_y }
