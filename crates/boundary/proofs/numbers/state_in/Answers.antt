-- `boundary::numbers::state_in` meets its contract. A slice of seven numbers, the last of them a phase's, is that state.
use native.Mathlib.Omega.{arith}
use Rattle.boundary.proofs.SevenNumbers.{other_length, other-phase, a-state}
use Rattle.boundary.proofs.numbers.state_in.Goals as goal

pub returns-in_default : goal.returns-in_default
returns-in_default c = other_length _ (omega arith)

pub returns-in_default-2 : goal.returns-in_default-2
returns-in_default-2 c = other_length _ (omega arith)

pub returns-in_err-phase : goal.returns-in_err-phase
returns-in_err-phase c = rw c.from_residual.ensures (other-phase _ (omega arith) c.in_err-phase.ensures)

pub returns : goal.returns
returns c = a-state _ (omega arith) c.in_ok-phase.phase c.in_ok-phase.ensures
