-- `boundary::storing::keeper_write_back` meets its contract. The library's call on the state in the slice, or the state of zeros refused.
use mathlib.Core.Path.{refl}
use Rattle.keeper.specs.Answers.{written_back}
use Rattle.boundary.proofs.Crossing.{crossed, no-state, mapped, back_granted}
use Rattle.boundary.proofs.SevenNumbers.{holds-state, holds-none}
use Rattle.boundary.specs.Boundary.{back_value}
use Rattle.boundary.proofs.storing.keeper_write_back.Goals as goal

pub returns-in_default : goal.returns-in_default
returns-in_default c = no-state _ _ _ _ _ _ _ (holds-none _ c.in_default.ensures) tt _ refl _ c.number.ensures

pub put_state-requires : goal.put_state-requires
put_state-requires c = let h = holds-state _ _ c.in-Some.ensures in h.is_seven

pub returns : goal.returns
returns c =
    crossed _ _ _ _ _ _ written_back back_granted _ _ _ c.write_back-out.result.state (holds-state _ _ c.in-Some.ensures) _ _ _ _ _ _ _ _ _ c.write_back-out.ensures c.number_of.ensures (mapped written_back back_value (λ n. refl) c.write_back-out.result.answer _ c.map_or.ensures) c.put_state.ensures
