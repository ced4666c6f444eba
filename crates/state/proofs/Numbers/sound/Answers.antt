use Rattle.std.proofs.Common.{rules, arith}
use Rattle.scope.specs.Bytes.{max_no}
use Rattle.scope.specs.Keeper.{sound}
use Rattle.state.specs.State.{state_of}
use Rattle.state.proofs.Numbers.sound.Goals as goal

pub returns-then-self-3 : goal.returns-then-self-3
unfolding sound state_of max_no
returns-then-self-3 c = search rules

pub returns-else-self-3 : goal.returns-else-self-3
unfolding sound state_of max_no
returns-else-self-3 c = grind arith
