-- `journal::next_row` meets its contract. The next remainder is one more, or 0 after the last.
use native.Mathlib.Omega.{arith}
use Rattle.journal.proofs.RowPlaces.{row_turns, row_follows}
use Rattle.journal.proofs.next_row.Goals as goal

pub returns-then-at-index : goal.returns-then-at-index
returns-then-at-index c = λ n i e. row_turns _ c.args.at n i e (omega arith)

pub returns-else-at-index : goal.returns-else-at-index
returns-else-at-index c = λ n i e. row_follows _ c.args.at n i e (omega arith) (omega arith)
