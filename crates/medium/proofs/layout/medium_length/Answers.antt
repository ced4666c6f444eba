-- `medium_length` is the medium's length, and its sums fit: by arithmetic.
use native.Mathlib.Omega.{arith}
use Rattle.scope.specs.Keeper.{medium_length}
use Rattle.medium.proofs.layout.medium_length.Goals as goal

pub returns : goal.returns
unfolding medium_length
returns c = omega arith
