-- A slice that holds no state stands for the state of zeros, which is not sound: each call that takes a state refuses it with 1 and leaves what it was lent.
use mathlib.Core.Path.{◌≡◌, refl}
use mathlib.Core.List.{List}
use Prim.Native.Nat.{ℕ}
use Rattle.scope.specs.Keeper.{refused, no_state, sound, in_range}
use Rattle.scope.specs.Refusals.{Call}
use Rattle.scope.specs.Calls.{act}
use Rattle.scope.proofs.Callers.{takes_state, unsound_refused}
use Rattle.state.specs.Lent.{stateless}

pub zeros_refused : (a : Call) → takes_state a → (m c f l w : List ℕ) → act a (stateless m c f l w) ≡ record { answer = refused 1; keeper = stateless m c f l w }
unfolding sound in_range no_state stateless
zeros_refused a x m c f l w = unsound_refused a x (stateless m c f l w) refl
