use Rattle.std.proofs.Common.{rules}
use Rattle.scope.specs.Bytes.{max_no}
use Rattle.scope.specs.Refusals.{used_up}
use Rattle.state.specs.State.{state_of}
use Rattle.state.proofs.Numbers.used_up.Goals as goal

pub returns : goal.returns
unfolding used_up state_of max_no
returns c = search rules
