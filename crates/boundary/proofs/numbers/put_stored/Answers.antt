-- `boundary::numbers::put_stored` meets its contract. One store beside the numbers that stand there.
use lib.ListN.{set}
use mathlib.Core.Path.{refl}
use native.Mathlib.Omega.{arith}
use Rattle.state.specs.State.{state_of}
use Rattle.boundary.proofs.SevenNumbers.{is_long, put_changed}
use Rattle.boundary.specs.Boundary.{numbers_of, seven}
use Rattle.boundary.specs.Held.{stored}
use Rattle.boundary.proofs.numbers.put_stored.Goals as goal

pub bounds-s-3 : goal.bounds-s-3
bounds-s-3 c = omega (arith, is_long _ c.requires.is_state)

pub returns : goal.returns
unfolding numbers_of state_of seven
returns c =
    let a = c.args in
    put_changed stored (λ x. set x 3 a.state.numbers.f) a.s.now _ c.requires refl
