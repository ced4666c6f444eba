-- `boundary::recovering::keeper_recovery_start` meets its contract. The library's call, its state put into the slice.
use native.Mathlib.Omega.{arith}
use Rattle.boundary.proofs.Crossing.{start_other, start_crossed}
use Rattle.boundary.proofs.recovering.keeper_recovery_start.Goals as goal

pub returns-then-state-ne7 : goal.returns-then-state-ne7
returns-then-state-ne7 c = start_other _ _ _ _ _ _ (omega arith) _ c.tell.ensures.number _ _ c.tell.ensures.fault

pub returns : goal.returns
returns c =
    start_crossed _ _ _ _ _ _ (omega arith) c.recovery_start-out.result.state _ _ _ _ _ _ _ _ c.recovery_start-out.ensures c.tell-2.ensures.number c.put_state.ensures _ _ c.tell-2.ensures.fault
