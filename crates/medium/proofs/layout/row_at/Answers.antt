-- `row_at` is a row's place, within the rows: a remainder by C is below C.
use native.Mathlib.Omega.{arith}
use Rattle.medium.proofs.Places.{row-place}
use Rattle.medium.proofs.layout.row_at.Goals as goal

pub returns : goal.returns
returns c = row-place _ _ _ (omega arith) (omega arith)
