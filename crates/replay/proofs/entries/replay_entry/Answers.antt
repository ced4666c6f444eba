-- One entry replayed is replay_entry of what its row reads as, and the answer is open_after: by the kind of entry.
use native.Mathlib.Omega.{arith}
use Rattle.journal.proofs.RowPlaces.{read_from}
use Rattle.journal.proofs.Meanings.{is_nothing, is-update, is_commit, is_abort, entry-below}
use Rattle.replay.proofs.Turns.{replay_nothing, replay-update, replay_commit, replay_abort}
use Rattle.replay.proofs.entries.replay_entry.Goals as goal

pub returns-in-Err : goal.returns-in-Err
returns-in-Err c = replay_nothing _ _ _ _ _ _ (is_nothing _ _ (read_from _ _ _ _ c.requires.place.0 _ _ c.entry_from.ensures.entry) _ c.in-Err.is)

pub bounds-current-index : goal.bounds-current-index
bounds-current-index c =
    omega (arith, entry-below _ _ _ _ _ _ _ _ (is-update _ _ (read_from _ _ _ _ c.requires.place.0 _ _ c.entry_from.ensures.entry) _ c.in-Ok-Update.is _ _ _ c.in-Ok-Update.field-0-is))

pub returns-in-Ok-Update : goal.returns-in-Ok-Update
returns-in-Ok-Update c =
    replay-update _ _ _ _ _ _ _ _ _ _ (is-update _ _ (read_from _ _ _ _ c.requires.place.0 _ _ c.entry_from.ensures.entry) _ c.in-Ok-Update.is _ _ _ c.in-Ok-Update.field-0-is) (omega arith)

pub returns-in-Ok-Commit : goal.returns-in-Ok-Commit
returns-in-Ok-Commit c =
    replay_commit _ _ _ _ _ _ (is_commit _ _ (read_from _ _ _ _ c.requires.place.0 _ _ c.entry_from.ensures.entry) _ c.in-Ok-Commit.is c.in-Ok-Commit.field-0-is)

pub returns-in-Ok-Abort : goal.returns-in-Ok-Abort
returns-in-Ok-Abort c =
    replay_abort _ _ _ _ _ _ _ c.undo.ensures (is_abort _ _ (read_from _ _ _ _ c.requires.place.0 _ _ c.entry_from.ensures.entry) _ c.in-Ok-Abort.is c.in-Ok-Abort.field-0-is)
