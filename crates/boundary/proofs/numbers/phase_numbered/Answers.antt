-- `boundary::numbers::phase_numbered` meets its contract. Each number is a case of the definition.
use mathlib.Core.Path.{refl}
use native.Mathlib.Omega.{arith}
use Rattle.boundary.specs.Boundary.{phase_in}
use Rattle.boundary.specs.Held.{phase_numbered}
use Rattle.boundary.proofs.SevenNumbers.{no-phase}
use Rattle.boundary.proofs.numbers.phase_numbered.Goals as goal

pub returns-in-0 : goal.returns-in-0
unfolding phase_numbered phase_in
returns-in-0 c = rw c.in-0.is refl

pub returns-in-1 : goal.returns-in-1
unfolding phase_numbered phase_in
returns-in-1 c = rw c.in-1.is refl

pub returns-in-2 : goal.returns-in-2
unfolding phase_numbered phase_in
returns-in-2 c = rw c.in-2.is refl

pub returns-in_default : goal.returns-in_default
returns-in_default c = no-phase _ (omega arith)
