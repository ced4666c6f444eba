-- `text::Text::put_cells` meets its contract. Invariant: the text of the first i cells stands after what stood there.
use native.Mathlib.Omega.{arith}
use Rattle.scope.specs.Keeper.{cell_at}
use Rattle.text.proofs.Writing.{cells_none, cells_again, cells_room, cells_all}
use Rattle.text.proofs.Text.put_cells.Goals as goal

pub loop-i-init : goal.loop-i-init
loop-i-init g c = cells_none c.args.medium.now c.args.cells c.args.slots _

pub get8-requires : goal.get8-requires
unfolding cell_at
get8-requires g c = omega arith

pub put_cell-requires : goal.put_cell-requires
put_cell-requires g c =
    let a = c.args in
    let r = cells_room a.medium.now a.cells a.slots a.self.now c.loop-i.i (omega arith) (omega arith) c.loop-i.invariant in
    omega (arith, c.requires.1)

pub loop-i-preserved : goal.loop-i-preserved
loop-i-preserved g c =
    let a = c.args in
    cells_again a.medium.now a.cells a.slots a.self.now _ _ _ c.cell_at.ensures c.get8.ensures (omega arith) c.loop-i.invariant c.put_cell.ensures

pub returns : goal.returns
returns g c = cells_all c.args.medium.now c.args.cells c.args.slots c.args.self.now c.loop-i.i (omega arith) c.loop-i.invariant
