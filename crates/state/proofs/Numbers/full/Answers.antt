use Rattle.std.proofs.Common.{rules}
use Rattle.scope.specs.Refusals.{full}
use Rattle.state.specs.State.{state_of}
use Rattle.state.proofs.Numbers.full.Goals as goal

pub returns : goal.returns
unfolding full state_of
returns c = search rules
