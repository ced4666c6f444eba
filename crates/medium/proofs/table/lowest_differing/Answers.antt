-- `lowest_differing` is the lowest cell that differs: the search goes on at an equal one, ends at another, or at the table's end.
use native.Mathlib.Omega.{arith}
use Rattle.scope.specs.Keeper.{cell_at}
use Rattle.medium.proofs.Cells.{differing_again, differing-found, differing-end}
use Rattle.medium.proofs.table.lowest_differing.Goals as goal

pub overflow_add-base : goal.overflow_add-base
unfolding cell_at
overflow_add-base c = omega arith

pub get8-requires : goal.get8-requires
unfolding cell_at
get8-requires c = omega arith

pub returns-then-value-get8 : goal.returns-then-value-get8
returns-then-value-get8 c =
    differing-found c.args.current.now _ _ _ _ _ c.cell_at-base.ensures c.get8.ensures (omega arith) _
    c.loop-i.invariant c.if-value-get8.true

pub loop-i-preserved : goal.loop-i-preserved
loop-i-preserved c =
    differing_again c.args.current.now _ _ _ _ _ c.cell_at-base.ensures c.get8.ensures (omega arith) _
    c.loop-i.invariant c.if-value-get8.false

pub returns : goal.returns
returns c = differing-end c.args.current.now _ _ c.loop-i.i (omega arith) _ c.loop-i.invariant
