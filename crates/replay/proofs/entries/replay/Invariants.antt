-- Entries h + 1 to e replayed are replay_from. The invariant: replaying what remains, n + 1 to e, makes of the table what all of it makes of the first, and the place is entry n + 1's.
use Rattle.std.proofs.Common.{◌≡◌, ◌+◌, ◌-◌, ◌*◌, ◌≤◌, length}
use Rattle.scope.specs.Keeper.{row_at}
use Rattle.journal.specs.Entries.{entry_in}
use Rattle.replay.specs.Replay.{replay_from}
use Rattle.replay.proofs.entries.replay.Given as goal

abbrev pub invariant-loop-n : goal.invariant-loop-n
invariant-loop-n l = record {
  lengths : length l.current ≡ l.cells;
  remains : replay_from (entry_in l.medium 32 l.slots l.cells) (l.e - l.h) l.h l.h l.initial.current ≡ replay_from (entry_in l.medium 32 l.slots l.cells) (l.e - l.n) l.s l.n l.current;
  place : l.at ≡ 32 + row_at l.slots (l.n + 1);
  inside : l.at ≤ 32 * l.slots;
}
