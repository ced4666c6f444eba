-- `orders::with_words`: each way is one of the definition's.
use Rattle.std.proofs.Common.{arith}
use Rattle.std.proofs.lemmas.Bool.Decides.{nat_tests}
use Rattle.orders.specs.Orders.{words_order}
use Rattle.orders.proofs.Lines.{words_order-other}
use Rattle.orders.proofs.with_words.Goals as goal

pub returns-in-Format : goal.returns-in-Format
unfolding words_order
returns-in-Format c = rw c.in-Format.is c.format.ensures

pub returns-in_default : goal.returns-in_default
returns-in_default c =
    let e = words_order-other c.args.s.now c.args.kind c.args.given c.args.a c.args.b c.args.c c.in_default.not-Format in
    grind (arith, nat_tests)

pub returns-in_default-2 : goal.returns-in_default-2
returns-in_default-2 c =
    let e = words_order-other c.args.s.now c.args.kind c.args.given c.args.a c.args.b c.args.c c.in_default-2.not-Format in
    grind (arith, nat_tests)
