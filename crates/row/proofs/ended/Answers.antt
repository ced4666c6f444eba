-- `row::ended` meets its contract. Each exit is a case of the definitions.
use native.Mathlib.Omega.{arith}
use Rattle.row.proofs.Reading.{end-cell, end-old, end-new, end_bare}
use Rattle.row.proofs.ended.Goals as goal

pub returns-then-cell-ne0 : goal.returns-then-cell-ne0
returns-then-cell-ne0 c = end-cell _ _ _ _ (omega arith)

pub returns-then-old-ne0 : goal.returns-then-old-ne0
returns-then-old-ne0 c = end-old _ _ _ _ (omega arith) (omega arith)

pub returns-then-new-ne0 : goal.returns-then-new-ne0
returns-then-new-ne0 c = end-new _ _ _ _ (omega arith) (omega arith) (omega arith)

pub returns : goal.returns
returns c = end_bare _ _ _ _ (omega arith) (omega arith) (omega arith)
