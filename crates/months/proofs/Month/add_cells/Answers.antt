-- `months::Month::add_cells` meets its contract. The invariant: the cells that remain, added to what was counted, give what all give.
use native.Mathlib.Omega.{arith}
use Rattle.months.proofs.Adding.{cells_again, cells-end}
use Rattle.months.proofs.Month.add_cells.Goals as goal

pub loop-value-preserved : goal.loop-value-preserved
loop-value-preserved c = cells_again _ _ _ _ c.loop-value.invariant (omega arith) _ c.add_cell.ensures

pub returns : goal.returns
returns c = cells-end _ _ _ _ c.loop-value.invariant (omega arith)
