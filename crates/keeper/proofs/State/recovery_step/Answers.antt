-- `recovery_step` hands on what the crate `recovery` leaves.
use Rattle.keeper.proofs.Recoveries.{step_done, step_refused}
use Rattle.keeper.proofs.State.recovery_step.Goals as goal

pub returns-in-Ok : goal.returns-in-Ok
returns-in-Ok c = step_done c.args.self _ _ _ _ _ c.done.ensures c.in-Ok.ensures

pub returns-in-Err : goal.returns-in-Err
returns-in-Err c = step_refused c.args.self _ _ _ _ _ c.refused.ensures c.in-Err.ensures
