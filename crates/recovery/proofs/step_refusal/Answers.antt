-- `step_refusal` is the table's two tests.
use Rattle.std.proofs.Common.{arith}
use Rattle.scope.specs.Refusals.{refusal, tests, unfit, lent}
use Rattle.state.specs.State.{state_of}
use Rattle.state.specs.Lent.{lent_to}
use Rattle.recovery.proofs.step_refusal.Goals as goal

pub returns-then-not-fits_cells-clause-number : goal.returns-then-not-fits_cells-clause-number
unfolding refusal tests unfit lent lent_to state_of
returns-then-not-fits_cells-clause-number c = grind arith

pub returns-then-not-is_recovering-clause-number : goal.returns-then-not-is_recovering-clause-number
unfolding refusal tests unfit lent lent_to state_of
returns-then-not-is_recovering-clause-number c = grind arith

pub returns-clause-number : goal.returns-clause-number
unfolding refusal tests unfit lent lent_to state_of
returns-clause-number c = grind arith
