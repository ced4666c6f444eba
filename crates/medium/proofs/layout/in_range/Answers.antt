-- `in_range` tests N and C: the definition's four tests.
use Rattle.std.proofs.Common.{rules, arith}
use Rattle.scope.specs.Keeper.{in_range}
use Rattle.medium.proofs.layout.in_range.Goals as goal

pub returns-then-slots-ge4 : goal.returns-then-slots-ge4
unfolding in_range
returns-then-slots-ge4 c = search rules

pub returns-else-slots-ge4 : goal.returns-else-slots-ge4
unfolding in_range
returns-else-slots-ge4 c = grind arith
