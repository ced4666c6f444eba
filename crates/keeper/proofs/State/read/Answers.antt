-- `keeper::State::read` meets its contract. Refused, or done, as the table says.
use Rattle.std.proofs.Common.{[], refl, sym, arith}
use Rattle.scope.specs.Keeper.{done}
use Rattle.scope.specs.Refusals.{Read}
use Rattle.keeper.proofs.Passed.{read_passed}
use Rattle.keeper.proofs.Transactions.{read_done}
use Rattle.keeper.proofs.Unless.{refused-leaves, done-tells}
use Rattle.keeper.proofs.State.read.Goals as goal

pub returns-in-Err : goal.returns-in-Err
returns-in-Err c = refused-leaves (Read _) _ [] _ [] [] [] _ done (λ k. refl) _ c.refused.ensures c.in-Err.ensures

pub bounds-current-index : goal.bounds-current-index
bounds-current-index c =
    let a = c.args in
    omega (arith, read_passed a.self.numbers a.self.phase [] a.current.now [] [] [] a.cell (sym c.in_default.ensures.number))

pub returns : goal.returns
returns c =
    let s = c.args.self in
    (read_done s _ _ _ c.in_default.ensures.number _ _ c.index.ensures.0 refl c.done.ensures, done-tells (Read _) s [] _ [] [] [] _ _ _ _ c.done.ensures c.in_default.ensures)
