-- `boundary::transaction::keeper_read` meets its contract. The library's call on the state in the slice, or the state of zeros refused.
use mathlib.Core.Path.{refl}
use Rattle.scope.specs.Keeper.{done}
use Rattle.boundary.proofs.Crossing.{crossed, no-state, unwrapped}
use Rattle.boundary.proofs.SevenNumbers.{holds-state, holds-none}
use Rattle.boundary.proofs.transaction.keeper_read.Goals as goal

pub returns-in_default : goal.returns-in_default
returns-in_default c = no-state _ _ _ _ _ _ _ (holds-none _ c.in_default.ensures) tt _ refl _ c.number.ensures

pub put_state-requires : goal.put_state-requires
put_state-requires c = let h = holds-state _ _ c.in-Some.ensures in h.is_seven

pub returns : goal.returns
returns c =
    crossed _ _ _ _ _ _ done (λ v. refl) _ _ _ c.read-out.result.state (holds-state _ _ c.in-Some.ensures) _ _ _ _ _ _ _ _ _ c.read-out.ensures c.number_of.ensures (unwrapped c.read-out.result.answer _ c.unwrap_or.ensures) c.put_state.ensures
