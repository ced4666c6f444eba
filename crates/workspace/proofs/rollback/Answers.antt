-- `workspace::rollback` meets its contract. The rows that remain, rolled back from here, give what all give from the start.
use borrow.Author.Rules.{rules}
use native.Mathlib.Omega.{arith}
use Rattle.workspace.proofs.Restoring.{roll_again, roll_end}
use Rattle.workspace.proofs.rollback.Goals as goal

pub loop-m-preserved : goal.loop-m-preserved
loop-m-preserved c = (search rules, roll_again _ _ _ _ _ _ _ c.loop-m.invariant.1 (omega arith) c.restore.ensures)

pub returns : goal.returns
returns c = roll_end _ _ _ _ _ _ c.loop-m.invariant.1 (omega arith)
