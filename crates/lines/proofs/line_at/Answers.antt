-- `lines::line_at` meets its contract. By the places that its callees find.
use native.Mathlib.Omega.{arith}
use Rattle.lines.proofs.Lined.{no_line, line_here}
use Rattle.lines.proofs.line_at.Goals as goal

pub returns-then-s-at : goal.returns-then-s-at
returns-then-s-at c = no_line _ _ (omega arith)

pub returns : goal.returns
returns c = line_here _ _ (omega arith) _ _ _ c.newline-newline.ensures.0 c.line_end.ensures c.next_line.ensures
