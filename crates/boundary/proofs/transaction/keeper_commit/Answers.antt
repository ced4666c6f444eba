-- `boundary::transaction::keeper_commit` meets its contract. The library's call on the state in the slice, or the state of zeros refused.
use mathlib.Core.Path.{refl}
use Rattle.scope.specs.Keeper.{done}
use Rattle.scope.specs.Refusals.{Commit}
use Rattle.boundary.proofs.Crossing.{crossed_told, no_state_told, unwrapped}
use Rattle.boundary.proofs.Made.{commit_changes, has_rest}
use Rattle.boundary.proofs.SevenNumbers.{holds-state, holds-none}
use Rattle.boundary.proofs.transaction.keeper_commit.Goals as goal

pub returns-in_default : goal.returns-in_default
returns-in_default c = no_state_told _ _ _ _ _ _ _ (holds-none _ c.in_default.ensures) tt _ refl _ c.tell.ensures.number _ _ c.tell.ensures.fault

pub put_committed-requires : goal.put_committed-requires
put_committed-requires c = has_rest _ _ _ _ _ _ Commit _ commit_changes _ c.commit-out.result.state (holds-state _ _ c.in-Some.ensures) _ _ _ _ _ _ c.commit-out.ensures.0

pub returns : goal.returns
returns c =
    crossed_told _ _ _ _ _ _ done (λ v. refl) _ _ _ c.commit-out.result.state (holds-state _ _ c.in-Some.ensures) _ _ _ _ _ _ _ _ _ c.commit-out.ensures c.tell-2.ensures.number (unwrapped c.commit-out.result.answer _ c.unwrap_or.ensures) c.put_committed.ensures _ _ c.tell-2.ensures.fault
