-- `keeper::State::commit` meets its contract. Refused, or done: its first step, and force's to the last.
use Rattle.std.proofs.Common.{[], refl, sym, arith}
use Rattle.scope.specs.Keeper.{done}
use Rattle.scope.specs.Refusals.{Commit}
use Rattle.keeper.proofs.Passed.{commit_passed, commit_storing}
use Rattle.keeper.proofs.Transactions.{made_numbers, commit_done}
use Rattle.keeper.proofs.Unless.{refused-leaves, done-tells}
use Rattle.keeper.proofs.State.commit.Goals as goal

pub returns-in-Err : goal.returns-in-Err
returns-in-Err c = refused-leaves Commit _ _ [] [] [] _ _ done (λ k. refl) _ c.refused.ensures c.in-Err.ensures

pub make_commit-made-requires : goal.make_commit-made-requires
make_commit-made-requires c =
    let a = c.args in
    let w = commit_passed a.self.numbers a.self.phase a.medium.now [] [] [] a.waiting.now (sym c.in_default.ensures.number) in
    omega (arith, w.0, w.2, w.3)

pub force_all-stored-requires : goal.force_all-stored-requires
force_all-stored-requires c =
    let a = c.args in
    commit_storing a.self.numbers a.self.phase a.medium.now [] [] [] a.waiting.now (sym c.in_default.ensures.number) _ _
    (made_numbers _ _ _ _ c.make_commit-made.ensures) (omega arith)

pub returns : goal.returns
returns c =
    let s = c.args.self in (
      commit_done s _ _ _ c.in_default.ensures.number _ _ _ _ c.make_commit-made.ensures c.force_all-stored.ensures (rw c.from.ensures at c.done.ensures),
      done-tells Commit s _ [] [] [] _ _ _ _ _ c.done.ensures c.in_default.ensures,
    )
