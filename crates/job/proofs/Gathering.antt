-- How many positions a side has.
use Rattle.std.proofs.Common.{ℕ, ◌≤◌, Bool, true, false, cond, leb, [], length, Some, None, Option, refl, arith}
use Rattle.fold.specs.Signatures.{letters_of}
use Rattle.fold.specs.Words.{cells, columns_of, rows_of}
use Rattle.fold.specs.declared.signature.Signature.{Signature}
use Rattle.pages.specs.Meaning.{Meaning, size_of}
use Rattle.layers.specs.Layering.{Parts}
use Rattle.signature.specs.Imposing.{impose_shows, positions, sides_of}
use Rattle.signature.proofs.Grids.{grid_at}
use Rattle.signature.proofs.Positions.{count_is}

few_with : (b : Bool) (xs : Parts) → length xs ≤ 16 → length (cond b xs []) ≤ 16
few_with true xs h = h
few_with false xs h = omega arith

-- no side has more positions than the list has room for
pub positions_few : (o : Option Signature) (m : Meaning) (s : ℕ) → length (impose_shows o m s) ≤ 16
positions_few None m s = omega arith
positions_few (Some g) m s =
    let u = letters_of g in
    let f = (grid_at g (rows_of u) (columns_of u) refl refl).few.1 in
    few_with (leb s (sides_of u g.sheets m.pages)) (positions u g.sheets (size_of m) s) (omega (arith, count_is u g.sheets (size_of m) s (cells u) refl))
