-- `journal::store_row` meets its contract. A row is four words, each read and stored.
use native.Mathlib.Omega.{arith}
use Rattle.journal.proofs.RowPlaces.{four_words}
use Rattle.journal.proofs.store_row.Goals as goal

pub returns : goal.returns
returns c =
    four_words c.args.waiting.now c.row_at-from.result (omega arith)
    (λ i. omega (arith, c.shared_slice_known-1.given i)) _ _ _ _ _ _ _ _ _ _ _ c.row_at-from.ensures.0 (omega arith) c.get8-a.ensures
    c.get8-b.ensures c.get8-c.ensures c.get8-d.ensures c.put8.ensures c.put8-2.ensures
    c.put8-3.ensures c.put8-4.ensures
