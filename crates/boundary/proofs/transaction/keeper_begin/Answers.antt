-- `boundary::transaction::keeper_begin` meets its contract. The library's call on the state in the slice, or the state of zeros refused.
use mathlib.Core.Path.{refl}
use Rattle.scope.specs.Keeper.{done}
use Rattle.scope.specs.Refusals.{Begin}
use Rattle.boundary.proofs.Crossing.{crossed_told, no_state_told}
use Rattle.boundary.proofs.Made.{begin_makes, has_rest}
use Rattle.boundary.proofs.SevenNumbers.{holds-state, holds-none}
use Rattle.boundary.proofs.transaction.keeper_begin.Goals as goal

pub returns-in_default : goal.returns-in_default
returns-in_default c = no_state_told _ _ _ _ _ _ _ (holds-none _ c.in_default.ensures) tt _ refl _ c.tell.ensures.number _ _ c.tell.ensures.fault

pub put_made-requires : goal.put_made-requires
put_made-requires c = has_rest _ _ _ _ _ _ Begin _ begin_makes _ c.begin-out.result.state (holds-state _ _ c.in-Some.ensures) _ _ _ _ _ _ c.begin-out.ensures.0

pub returns : goal.returns
returns c =
    crossed_told _ _ _ _ _ _ done (λ v. refl) _ _ _ c.begin-out.result.state (holds-state _ _ c.in-Some.ensures) _ _ _ _ _ _ _ _ _ c.begin-out.ensures c.tell-2.ensures.number refl c.put_made.ensures _ _ c.tell-2.ensures.fault
