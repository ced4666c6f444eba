-- `journal::first_row` meets its contract. A remainder is below its divisor.
use native.Mathlib.Omega.{arith}
use Rattle.journal.proofs.RowPlaces.{row_first}
use Rattle.journal.proofs.first_row.Goals as goal

pub returns : goal.returns
returns c = row_first _ c.args.h c.index.result (omega arith) c.index.ensures.0
