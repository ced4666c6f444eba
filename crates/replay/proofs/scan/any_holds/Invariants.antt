-- The rows that remain, from entry k + 1 on, say what all say. The invariant has the place, which is entry k + 1's.
use Rattle.std.proofs.Common.{◌≡◌, ◌+◌, ◌-◌, ◌*◌, ◌≤◌}
use Rattle.scope.specs.Keeper.{row_at}
use Rattle.scope.specs.Recovery.{rows_of, any_holds}
use Rattle.replay.proofs.scan.any_holds.Given as goal

abbrev pub invariant-loop-k : goal.invariant-loop-k
invariant-loop-k l = record {
  remains : any_holds (rows_of l.slots l.medium) l.count l.n ≡ any_holds (rows_of l.slots l.medium) (l.n + l.count - l.k) l.k;
  place : l.at ≡ 32 + row_at l.slots (l.k + 1);
  inside : l.at ≤ 32 * l.slots;
}
