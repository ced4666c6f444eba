-- `boundary::storing::keeper_cut` meets its contract. The library's call on the state in the slice, or the state of zeros refused.
use mathlib.Core.Path.{refl}
use Rattle.scope.specs.Keeper.{done}
use Rattle.scope.specs.Refusals.{Cut}
use Rattle.boundary.proofs.Crossing.{crossed_told, no_state_told}
use Rattle.boundary.proofs.Made.{cut_drops, has_rest}
use Rattle.boundary.proofs.SevenNumbers.{holds-state, holds-none}
use Rattle.boundary.proofs.storing.keeper_cut.Goals as goal

pub returns-in_default : goal.returns-in_default
returns-in_default c = no_state_told _ _ _ _ _ _ _ (holds-none _ c.in_default.ensures) tt _ refl _ c.tell.ensures.number _ _ c.tell.ensures.fault

pub put_dropped-requires : goal.put_dropped-requires
put_dropped-requires c = has_rest _ _ _ _ _ _ (Cut _) _ (cut_drops _) _ c.cut-out.result.state (holds-state _ _ c.in-Some.ensures) _ _ _ _ _ _ c.cut-out.ensures.0

pub returns : goal.returns
returns c =
    crossed_told _ _ _ _ _ _ done (λ v. refl) _ _ _ c.cut-out.result.state (holds-state _ _ c.in-Some.ensures) _ _ _ _ _ _ _ _ _ c.cut-out.ensures c.tell-2.ensures.number refl c.put_dropped.ensures _ _ c.tell-2.ensures.fault
