-- The rows that remain, from entry n + 1 on, have the last entry and the lowest row that does not read of all. The invariant has the place, which is entry n + 1's.
use Rattle.std.proofs.Common.{◌≡◌, ◌+◌, ◌-◌, ◌*◌, ◌≤◌}
use Rattle.scope.specs.Keeper.{row_at}
use Rattle.scope.specs.Recovery.{rows_of, entries_from, journal, fault_from, journal_fault}
use Rattle.replay.specs.Replay.{last_of}
use Rattle.replay.proofs.scan.scan.Given as goal

abbrev pub invariant-loop-n : goal.invariant-loop-n
invariant-loop-n l = record {
  last : last_of l.h (journal l.cells l.slots l.h l.medium) ≡ last_of l.n (entries_from (rows_of l.slots l.medium) l.cells (l.end - l.n) l.n);
  fault : journal_fault l.cells l.slots l.h l.medium ≡ fault_from (rows_of l.slots l.medium) l.cells (l.end - l.n) l.n;
  place : l.at ≡ 32 + row_at l.slots (l.n + 1);
  inside : l.at ≤ 32 * l.slots;
}
