use Rattle.std.proofs.Common.{rules, arith}
use Rattle.scope.specs.Refusals.{lent}
use Rattle.state.specs.State.{state_of}
use Rattle.state.specs.Lent.{lent_to}
use Rattle.refusal.proofs.fit_rows.Goals as goal

pub returns-then-fits_medium : goal.returns-then-fits_medium
unfolding lent lent_to state_of
returns-then-fits_medium c = search rules

pub returns-else-fits_medium : goal.returns-else-fits_medium
unfolding lent lent_to state_of
returns-else-fits_medium c = grind arith
