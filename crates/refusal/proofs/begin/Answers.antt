-- `refusal::begin` meets its contract. Abort's table, and then room.
use Rattle.std.proofs.Common.{[]}
use Rattle.refusal.proofs.Faults.{begin_stopped, begin_ended}
use Rattle.refusal.proofs.begin.Goals as goal

pub returns-in_err-abort : goal.returns-in_err-abort
returns-in_err-abort c = begin_stopped c.args.numbers c.args.phase [] _ _ _ _ _ _ c.from_residual.ensures.1 c.in_err-abort.ensures

pub returns : goal.returns
returns c = begin_ended c.args.numbers c.args.phase [] _ _ _ _ _ _ c.in_ok-abort.ensures c.has_room.ensures
