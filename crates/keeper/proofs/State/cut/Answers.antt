-- `keeper::State::cut` meets its contract. Refused, or the head stored.
use Rattle.std.proofs.Common.{[], refl, sym, arith}
use Rattle.scope.specs.Keeper.{done}
use Rattle.scope.specs.Refusals.{Cut}
use Rattle.keeper.proofs.Passed.{cut_passed}
use Rattle.keeper.proofs.Stores.{cut-done}
use Rattle.keeper.proofs.Unless.{refused-leaves, done-tells}
use Rattle.keeper.proofs.State.cut.Goals as goal

pub returns-in-Err : goal.returns-in-Err
returns-in-Err c = refused-leaves (Cut _) _ _ [] _ [] [] _ done (λ k. refl) _ c.refused.ensures c.in-Err.ensures

pub store_head-requires : goal.store_head-requires
store_head-requires c =
    let a = c.args in
    omega (arith, cut_passed a.self.numbers a.self.phase a.medium.now [] a.first.now [] [] a.p (sym c.in_default.ensures.number))

pub returns : goal.returns
returns c =
    let s = c.args.self in
    (cut-done s _ _ _ _ c.in_default.ensures.number _ c.store_head.ensures c.done.ensures, done-tells (Cut _) s _ [] _ [] [] _ _ _ _ c.done.ensures c.in_default.ensures)
