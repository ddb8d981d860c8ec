use Rattle.std.proofs.Common.{◌<◌, sym, ◌∙◌, arith}
use Rattle.fold.specs.Signatures.{letters_of}
use Rattle.fold.specs.Words.{cells}
use Rattle.signature.proofs.Grids.{takes}
use Rattle.signature.proofs.Positions.{Stands, cell_page, count_is, position_is, spot_stands}
use Rattle.signature.proofs.laid_side.LaidSide.part.Goals as goal
use Rattle.signature.proofs.laid_side.LaidSide.part.Goals.{After-spot-at}

-- the index is that of a cell
inside : (c : After-spot-at) → c.args.index < cells (letters_of c.args.self.signature)
inside c = let s = c.args.self in omega (arith, c.if-cells-index.false, c.cells.ensures.all, count_is (letters_of s.signature) s.signature.sheets s.size s.side (cells (letters_of s.signature)) (λ _. cells (letters_of s.signature)))

stands : (c : After-spot-at) → Stands (letters_of c.args.self.signature) c.args.self.signature.sheets c.spot-at.result
stands c = spot_stands c.args.self.signature c.args.self.side c.args.index c.spot-at.result (inside c) c.spot-at.ensures

pub returns-in_err-cell : goal.returns-in_err-cell
returns-in_err-cell c = absurd ((stands (goal.at.returns-in_err-cell c).After-spot-at).cell (sym c.in_err-cell.was ∙ c.cell.ensures))

pub overflow_add-result : goal.overflow_add-result
overflow_add-result c =
    let s = c.args.self.signature in
    let t = (stands (goal.at.overflow_add-result c).After-spot-at).sheet in
    omega (arith, cell_page (letters_of s) s.sheets c.spot-at.result c.in_ok-cell.cell t.0 t.1 (sym c.in_ok-cell.was ∙ c.cell.ensures), (takes s).most, c.pages_before.ensures.few)

pub returns : goal.returns
returns c =
    let s = c.args.self in
    position_is (letters_of s.signature) s.signature.sheets s.size s.side c.args.index c.pages_before.result c.spot-at.result c.in_ok-cell.cell c.map.result
    (inside (goal.at.returns c).After-spot-at) c.spot-at.ensures c.pages_before.ensures.all (sym c.in_ok-cell.was ∙ c.cell.ensures) c.map.ensures
