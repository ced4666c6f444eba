use Rattle.std.proofs.Common.{rules, arith}
use Rattle.scope.specs.Bytes.{max_no}
use Rattle.scope.specs.Keeper.{phase_ok}
use Rattle.state.specs.State.{state_of}
use Rattle.state.proofs.Numbers.phase_ok.Goals as goal

pub returns-in-Idle : goal.returns-in-Idle
unfolding phase_ok state_of max_no
returns-in-Idle c = search rules

pub returns-then-self-3 : goal.returns-then-self-3
unfolding phase_ok state_of max_no
returns-then-self-3 c = search rules

pub returns-else-self-3 : goal.returns-else-self-3
unfolding phase_ok state_of max_no
returns-else-self-3 c = grind arith

pub returns-then-self-4 : goal.returns-then-self-4
unfolding phase_ok state_of max_no
returns-then-self-4 c = search rules

pub returns-else-self-4 : goal.returns-else-self-4
unfolding phase_ok state_of max_no
returns-else-self-4 c = grind arith
