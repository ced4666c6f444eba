-- `keeper::State::force` meets its contract. Refused, nothing left, or one row stored.
use Rattle.std.proofs.Common.{[], refl, sym, arith}
use Rattle.scope.specs.Keeper.{done}
use Rattle.scope.specs.Refusals.{Force}
use Rattle.keeper.proofs.Passed.{force_passed}
use Rattle.keeper.proofs.Stores.{force_none, force_stored}
use Rattle.keeper.proofs.Unless.{refused-leaves, done-tells}
use Rattle.keeper.proofs.State.force.Goals as goal

pub returns-in-Err : goal.returns-in-Err
returns-in-Err c = refused-leaves Force _ _ [] [] [] _ _ done (λ k. refl) _ c.refused.ensures c.in-Err.ensures

pub returns-then-numbers : goal.returns-then-numbers
returns-then-numbers c =
    let s = c.args.self in
    (force_none s _ _ _ c.in_default.ensures.number (omega arith) c.done.ensures, done-tells Force s _ [] [] [] _ _ _ _ _ c.done.ensures c.in_default.ensures)

pub force_step-next-requires : goal.force_step-next-requires
force_step-next-requires c =
    let a = c.args in
    let w = force_passed a.self.numbers a.self.phase a.medium.now [] [] [] a.waiting.now (sym c.in_default.ensures.number) in
    omega (arith, w.0, w.1, w.2)

pub returns : goal.returns
returns c =
    let s = c.args.self in (
      force_stored s _ _ _ c.in_default.ensures.number _ _ (omega arith) c.force_step-next.ensures (rw c.from.ensures at c.done-2.ensures),
      done-tells Force s _ [] [] [] _ _ _ _ _ c.done-2.ensures c.in_default.ensures,
    )
