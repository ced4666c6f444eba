-- `orders::format`: each way is one of the definition's.
use Rattle.std.proofs.Common.{arith}
use Rattle.std.proofs.lemmas.Bool.Decides.{nat_tests}
use Rattle.orders.specs.Orders.{sizes_order}
use Rattle.orders.proofs.format.Goals as goal

pub returns-then-not-erase : goal.returns-then-not-erase
unfolding sizes_order
returns-then-not-erase c = grind (arith, nat_tests)

pub returns-in_err-cells : goal.returns-in_err-cells
unfolding sizes_order
returns-in_err-cells c = grind (arith, nat_tests)

pub returns-in_err-slots : goal.returns-in_err-slots
unfolding sizes_order
returns-in_err-slots c = grind (arith, nat_tests)

pub returns : goal.returns
unfolding sizes_order
returns c = grind (arith, nat_tests)
