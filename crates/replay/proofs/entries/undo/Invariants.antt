-- Entries n to s + 1 undone are undo_from. The invariant: undoing what remains, k to s + 1, makes of the table what all of it makes of the first.
use Rattle.std.proofs.Common.{◌≡◌, ◌-◌, length}
use Rattle.journal.specs.Entries.{entry_in}
use Rattle.replay.specs.Replay.{undo_from}
use Rattle.replay.proofs.entries.undo.Given as goal

abbrev pub invariant-loop-k : goal.invariant-loop-k
invariant-loop-k l = (length l.current ≡ l.cells)
    × (undo_from (entry_in l.medium 32 l.slots l.cells) l.s (l.n - l.s) l.initial.current ≡ undo_from (entry_in l.medium 32 l.slots l.cells) l.s (l.k - l.s) l.current)
