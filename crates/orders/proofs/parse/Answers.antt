-- `orders::parse` is the line's order.
use Rattle.std.proofs.Common.{arith}
use Rattle.std.proofs.lemmas.Bool.Decides.{nat_tests}
use Rattle.orders.specs.Orders.{order_of}
use Rattle.orders.proofs.Lines.{starts_with-one}
use Rattle.orders.proofs.parse.Goals as goal
use Rattle.orders.proofs.parse.Goals.{then-is_empty-via-then-is_empty, then-is_empty-via-else-is_empty+then-starts_with}

pub returns-then-is_empty : goal.returns-then-is_empty
unfolding order_of
returns-then-is_empty c =
    let e = starts_with-one c.args.s.now in
    elim c.then-is_empty.branch [
      | then-is_empty-via-then-is_empty w ↦ grind (arith, nat_tests)
      | then-is_empty-via-else-is_empty+then-starts_with w ↦ grind (arith, nat_tests)
    ]

pub returns : goal.returns
unfolding order_of
returns c = let e = starts_with-one c.args.s.now in grind (arith, nat_tests)
