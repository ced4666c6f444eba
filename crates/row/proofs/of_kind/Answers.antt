-- `row::of_kind` meets its contract. Each kind is a case of the definitions.
use native.Mathlib.Omega.{arith}
use Rattle.row.proofs.Reading.{of_update, of_commit, of_abort, of_unknown}
use Rattle.row.proofs.of_kind.Goals as goal

pub returns-in-1 : goal.returns-in-1
returns-in-1 c = of_update _ _ _ _ _ (omega arith)

pub returns-in-2 : goal.returns-in-2
returns-in-2 c = of_commit _ _ _ _ _ _ _ c.ended.ensures.1 c.ended.ensures.0 (omega arith)

pub returns-in-3 : goal.returns-in-3
returns-in-3 c = of_abort _ _ _ _ _ _ _ c.ended-in-3.ensures.1 c.ended-in-3.ensures.0 (omega arith)

pub returns-in_default : goal.returns-in_default
returns-in_default c = of_unknown _ _ _ _ _ (omega arith) (omega arith) (omega arith) _ c.unread.ensures
