-- `load` reads the whole table: one more value by `load_again`, all of them by `load_end`.
use native.Mathlib.Omega.{arith}
use Rattle.scope.specs.Keeper.{cell_at}
use Rattle.medium.proofs.Cells.{load_again, load_end}
use Rattle.medium.proofs.table.load.Goals as goal

pub overflow_add-base : goal.overflow_add-base
unfolding cell_at
overflow_add-base c = omega arith

pub get8-requires : goal.get8-requires
unfolding cell_at
get8-requires c = omega arith

pub loop-i-preserved : goal.loop-i-preserved
loop-i-preserved c =
    load_again c.args.current.now _ _ _ _ _ c.cell_at-base.ensures c.get8.ensures (omega arith) _ c.loop-i.invariant

pub returns : goal.returns
returns c = load_end c.args.current.now _ _ c.loop-i.i (omega arith) _ c.loop-i.invariant
