-- `workspace::first_mark` meets its contract. Each exit is a case of the definition.
use native.Mathlib.Omega.{arith}
use Rattle.workspace.proofs.Restoring.{mark_set, mark_kept}
use Rattle.workspace.proofs.first_mark.Goals as goal

pub returns-then-old-eq0 : goal.returns-then-old-eq0
returns-then-old-eq0 c = mark_set _ _ (omega arith)

pub returns-else-old-eq0 : goal.returns-else-old-eq0
returns-else-old-eq0 c = mark_kept _ _ (omega arith)
