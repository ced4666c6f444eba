-- `cell_at` is a cell's place, and its sums fit: by arithmetic.
use native.Mathlib.Omega.{arith}
use Rattle.scope.specs.Keeper.{cell_at}
use Rattle.medium.proofs.layout.cell_at.Goals as goal

pub returns : goal.returns
unfolding cell_at
returns c = omega arith
