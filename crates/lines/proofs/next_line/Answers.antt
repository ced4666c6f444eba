-- `lines::next_line` meets its contract. By its one test.
use native.Mathlib.Omega.{arith}
use Rattle.lines.proofs.Lined.{next-after, next-none}
use Rattle.lines.proofs.next_line.Goals as goal

pub returns-then-newline-s : goal.returns-then-newline-s
returns-then-newline-s c = next-after _ _ (omega arith)

pub returns-else-newline-s : goal.returns-else-newline-s
returns-else-newline-s c = next-none _ _ (omega arith)
