-- `workspace::lowest_fault` meets its contract. The rows that remain have the same lowest fault.
use mathlib.Core.Path.{◌∙◌}
use native.Mathlib.Omega.{arith}
use Rattle.workspace.proofs.Judging.{due_or_wrong, lowest_done, lowest_again, lowest_found}
use Rattle.workspace.proofs.lowest_fault.Goals as goal

pub returns-then-not-is_due : goal.returns-then-not-is_due
returns-then-not-is_due c =
    lowest_found _ _ _ _ c.loop-m.invariant (omega arith) _ (c.is_due.ensures ∙ due_or_wrong _ _ _ _ _) c.if-not-is_due.true _ c.row_fault.ensures

pub loop-m-preserved : goal.loop-m-preserved
loop-m-preserved c = lowest_again _ _ _ _ c.loop-m.invariant (omega arith) _ (c.is_due.ensures ∙ due_or_wrong _ _ _ _ _) c.if-not-is_due.false

pub returns : goal.returns
returns c = lowest_done _ _ _ _ c.loop-m.invariant (omega arith)
