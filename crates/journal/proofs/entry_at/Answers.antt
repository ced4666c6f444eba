-- `journal::entry_at` meets its contract. The part that is read is the entry's row.
use Rattle.journal.proofs.RowPlaces.{read_part}
use Rattle.journal.proofs.entry_at.Goals as goal

pub returns : goal.returns
returns c =
    let e = read_part c.args.rows.now c.args.base c.args.slots c.args.cells c.args.n _ _ _ c.row_at.ensures.0 (c.entry_from.ensures.entry, c.entry_from.ensures.reason) in
    record { entry = e.0; reason = e.1 }
