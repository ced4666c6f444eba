-- `lines::line_end` meets its contract. One law for each way out.
use native.Mathlib.Omega.{arith}
use Rattle.lines.proofs.Lined.{end-last, end_blank, end_plain}
use Rattle.lines.proofs.line_end.Goals.{else-newline-s-via-then-newline-s+then-at-newline+else-s-newline-eq13 as plain, else-newline-s-via-then-newline-s+else-at-newline as blank, else-newline-s-via-else-newline-s as last}
use Rattle.lines.proofs.line_end.Goals as goal

pub returns-else-newline-s : goal.returns-else-newline-s
returns-else-newline-s c =
    elim c.else-newline-s.branch [
      | plain w ↦ end_plain _ _ _ (omega arith) (omega arith) (omega arith)
      | blank w ↦ end_blank _ _ _ (omega arith)
      | last w ↦ end-last _ _ _ (omega arith)
    ]
