-- One entry undone is undo_entry of what its row reads as: by the kind of entry. An update that reads has its cell below N, so the store is inside.
use Rattle.journal.proofs.Meanings.{is-update, entry-below}
use native.Mathlib.Omega.{arith}
use Rattle.replay.proofs.entries.undo_entry.Goals as goal

pub bounds-current-index : goal.bounds-current-index
bounds-current-index c =
    omega (arith, entry-below _ _ _ _ _ _ _ _ (is-update _ _ c.entry_at.ensures.entry _ c.in-Ok-Update.is _ _ _ c.in-Ok-Update.field-0-is))
