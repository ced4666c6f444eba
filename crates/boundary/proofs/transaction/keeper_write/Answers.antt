-- `boundary::transaction::keeper_write` meets its contract. The library's call on the state in the slice, or the state of zeros refused.
use mathlib.Core.Path.{refl}
use Rattle.scope.specs.Keeper.{done}
use Rattle.scope.specs.Refusals.{Write}
use Rattle.boundary.proofs.Crossing.{crossed, no-state}
use Rattle.boundary.proofs.Made.{write_makes, has_rest}
use Rattle.boundary.proofs.SevenNumbers.{holds-state, holds-none}
use Rattle.boundary.proofs.transaction.keeper_write.Goals as goal

pub returns-in_default : goal.returns-in_default
returns-in_default c = no-state _ _ _ _ _ _ _ (holds-none _ c.in_default.ensures) tt _ refl _ c.number.ensures

pub put_made-requires : goal.put_made-requires
put_made-requires c = has_rest _ _ _ _ _ _ (Write _ _) _ (write_makes _ _) _ c.write-out.result.state (holds-state _ _ c.in-Some.ensures) _ _ _ _ _ _ c.write-out.ensures.0

pub returns : goal.returns
returns c =
    crossed _ _ _ _ _ _ done (λ v. refl) _ _ _ c.write-out.result.state (holds-state _ _ c.in-Some.ensures) _ _ _ _ _ _ _ _ _ c.write-out.ensures c.number_of.ensures refl c.put_made.ensures
