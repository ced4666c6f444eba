use Rattle.std.proofs.Common.{rules}
use Rattle.scope.specs.Refusals.{lent}
use Rattle.state.specs.State.{state_of}
use Rattle.state.specs.Lent.{lent_to}
use Rattle.refusal.proofs.fit_workspaces.Goals as goal

pub returns-then-sound : goal.returns-then-sound
unfolding lent lent_to state_of
returns-then-sound c = search rules
