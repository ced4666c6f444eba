-- `boundary::numbers::put_dropped` meets its contract. One store beside the numbers that stand there.
use lib.ListN.{set}
use mathlib.Core.Path.{refl}
use native.Mathlib.Omega.{arith}
use Rattle.scope.specs.Keeper.{dropped_to}
use Rattle.state.specs.State.{state_of}
use Rattle.boundary.proofs.SevenNumbers.{is_long, put_changed}
use Rattle.boundary.specs.Boundary.{numbers_of, seven}
use Rattle.boundary.specs.Held.{dropped}
use Rattle.boundary.proofs.numbers.put_dropped.Goals as goal

pub bounds-s-2 : goal.bounds-s-2
bounds-s-2 c = omega (arith, is_long _ c.requires.is_state)

pub returns : goal.returns
unfolding numbers_of state_of seven dropped_to
returns c =
    let a = c.args in
    put_changed dropped (λ x. set x 2 a.state.numbers.h) a.s.now _ c.requires refl
