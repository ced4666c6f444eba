use Rattle.std.proofs.Common.{rules, arith}
use Rattle.scope.specs.Refusals.{lent}
use Rattle.state.specs.State.{state_of}
use Rattle.state.specs.Lent.{lent_to}
use Rattle.refusal.proofs.fit_table.Goals as goal

pub returns-then-fits_cells-2 : goal.returns-then-fits_cells-2
unfolding lent lent_to state_of
returns-then-fits_cells-2 c = search rules

pub returns-else-fits_cells-2 : goal.returns-else-fits_cells-2
unfolding lent lent_to state_of
returns-else-fits_cells-2 c = grind arith
