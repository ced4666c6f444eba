-- `boundary::numbers::put_committed` meets its contract. One store, and the rest is put as after making.
use native.Mathlib.Omega.{arith}
use Rattle.state.specs.State.{state_of}
use Rattle.boundary.proofs.SevenNumbers.{is_long, committed-rest}
use Rattle.boundary.proofs.numbers.put_committed.Goals as goal

pub bounds-s-3 : goal.bounds-s-3
bounds-s-3 c = omega (arith, is_long _ c.requires.is_state)

pub put_made-requires : goal.put_made-requires
unfolding state_of
put_made-requires c = committed-rest _ _ c.requires
