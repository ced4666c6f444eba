-- `boundary::storing::keeper_force` meets its contract. The library's call on the state in the slice, or the state of zeros refused.
use mathlib.Core.Path.{refl}
use Rattle.scope.specs.Keeper.{done}
use Rattle.scope.specs.Refusals.{Force}
use Rattle.boundary.proofs.Crossing.{crossed_told, no_state_told, unwrapped}
use Rattle.boundary.proofs.Made.{force_stores, has_rest}
use Rattle.boundary.proofs.SevenNumbers.{holds-state, holds-none}
use Rattle.boundary.proofs.storing.keeper_force.Goals as goal

pub returns-in_default : goal.returns-in_default
returns-in_default c = no_state_told _ _ _ _ _ _ _ (holds-none _ c.in_default.ensures) tt _ refl _ c.tell.ensures.number _ _ c.tell.ensures.fault

pub put_stored-requires : goal.put_stored-requires
put_stored-requires c = has_rest _ _ _ _ _ _ Force _ force_stores _ c.force-out.result.state (holds-state _ _ c.in-Some.ensures) _ _ _ _ _ _ c.force-out.ensures.0

pub returns : goal.returns
returns c =
    crossed_told _ _ _ _ _ _ done (λ v. refl) _ _ _ c.force-out.result.state (holds-state _ _ c.in-Some.ensures) _ _ _ _ _ _ _ _ _ c.force-out.ensures c.tell-2.ensures.number (unwrapped c.force-out.result.answer _ c.unwrap_or.ensures) c.put_stored.ensures _ _ c.tell-2.ensures.fault
