-- `boundary::numbers::put_state` meets its contract. Seven stores make a list of seven numbers.
use mathlib.Core.List.{[], ◌∷◌}
use mathlib.Core.Path.{ap, ◌∙◌}
use native.Mathlib.Omega.{arith}
use Rattle.state.specs.State.{state_of}
use Rattle.boundary.proofs.SevenNumbers.{stored-seven}
use Rattle.boundary.specs.Boundary.{numbers_of}
use Rattle.boundary.proofs.numbers.put_state.Goals as goal

pub returns : goal.returns
unfolding numbers_of state_of
returns c =
    let a = c.args in
    let s = a.state.numbers in stored-seven a.s.now (omega arith) _ _ _ _ _ _ _ ∙ ap (λ x. s.cells ∷ s.slots ∷ s.h ∷ s.f ∷ s.l ∷ s.o ∷ x ∷ []) c.phase_number.ensures
