-- `start_fits` judges head and workspaces: a head in rule has its numbers, and the tests are the definition's.
use Rattle.std.proofs.Common.{arith}
use Rattle.scope.specs.Refusals.{lent_start}
use Rattle.state.specs.Lent.{stateless}
use Rattle.recovery.proofs.Recovering.{head_fits}
use Rattle.recovery.proofs.start_fits.Goals as goal

pub get4-requires : goal.get4-requires
get4-requires c = let f = head_fits _ _ c.head_ok.ensures (grind arith) in omega arith

pub get4-requires-2 : goal.get4-requires-2
get4-requires-2 c = let f = head_fits _ _ c.head_ok.ensures (grind arith) in omega arith

pub returns-then-not-head_ok : goal.returns-then-not-head_ok
returns-then-not-head_ok c = grind arith

pub returns-then-last-cells : goal.returns-then-last-cells
unfolding lent_start stateless
returns-then-last-cells c = grind arith

pub returns-else-last-cells : goal.returns-else-last-cells
unfolding lent_start stateless
returns-else-last-cells c = grind arith
