-- `boundary::rows::entry_in` meets its contract. Each kind is a case of the definition.
use mathlib.Core.List.{[]}
use native.Mathlib.Omega.{arith}
use Rattle.row.proofs.Reading.{of_update, of_commit, of_abort, no_kind}
use Rattle.boundary.proofs.rows.entry_in.Goals as goal

pub returns-in-1 : goal.returns-in-1
returns-in-1 c = let a = c.args in (of_update [] a.kind a.cell a.old a.new (omega arith)).0

pub returns-in-2 : goal.returns-in-2
returns-in-2 c = let a = c.args in (of_commit [] a.kind a.cell a.old a.new _ _ c.ended.ensures.1 c.ended.ensures.0 (omega arith)).0

pub returns-in-3 : goal.returns-in-3
returns-in-3 c = let a = c.args in (of_abort [] a.kind a.cell a.old a.new _ _ c.ended-in-3.ensures.1 c.ended-in-3.ensures.0 (omega arith)).0

pub returns-in_default : goal.returns-in_default
returns-in_default c = no_kind [] _ _ _ _ (omega arith) (omega arith) (omega arith)
