-- `boundary::recovering::keeper_recovery_step` meets its contract. The library's call on the state in the slice, or the state of zeros refused.
use mathlib.Core.Path.{refl}
use Rattle.recovery.specs.Answers.{stepped}
use Rattle.boundary.proofs.Crossing.{crossed, no-state, mapped, stepped_granted}
use Rattle.boundary.proofs.SevenNumbers.{holds-state, holds-none}
use Rattle.boundary.specs.Boundary.{step_value}
use Rattle.boundary.proofs.recovering.keeper_recovery_step.Goals as goal

pub returns-in_default : goal.returns-in_default
returns-in_default c = no-state _ _ _ _ _ _ _ (holds-none _ c.in_default.ensures) tt _ refl _ c.number.ensures

pub put_state-requires : goal.put_state-requires
put_state-requires c = let h = holds-state _ _ c.in-Some.ensures in h.is_seven

pub returns : goal.returns
returns c =
    crossed _ _ _ _ _ _ stepped stepped_granted _ _ _ c.recovery_step-out.result.state (holds-state _ _ c.in-Some.ensures) _ _ _ _ _ _ _ _ _ c.recovery_step-out.ensures c.number_of.ensures (mapped stepped step_value (λ n. refl) c.recovery_step-out.result.answer _ c.map_or.ensures) c.put_state.ensures
