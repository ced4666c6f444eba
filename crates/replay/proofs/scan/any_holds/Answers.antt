-- A row that holds its number ends the search, another leaves it to those that remain.
use Rattle.std.proofs.Common.{◌+◌, ◌-◌, arith}
use Rattle.journal.proofs.RowPlaces.{number-from}
use Rattle.replay.proofs.Turns.{holds-done, holds-found, holds_again}
use Rattle.replay.proofs.scan.any_holds.Goals as goal

pub returns-then-get4-k : goal.returns-then-get4-k
returns-then-get4-k c =
    let i = c.loop-k.invariant in
    let number = number-from _ _ _ _ i.place _ c.get4.ensures in
    holds-found _ _ _ _ _ i.remains (c.args.n + c.args.count - (c.loop-k.k + 1)) (omega arith) (omega (arith, number))

pub loop-k-preserved : goal.loop-k-preserved
loop-k-preserved c =
    let i = c.loop-k.invariant in
    let number = number-from _ _ _ _ i.place _ c.get4.ensures in
    let next = c.next_row-at.ensures _ (omega arith) i.place in
    record { remains = holds_again _ _ _ _ _ i.remains _ (omega arith) (λ z. omega (arith, number)); place = next.0; inside = next.1 }

pub returns : goal.returns
returns c = holds-done _ _ _ _ _ c.loop-k.invariant.remains (omega arith)
