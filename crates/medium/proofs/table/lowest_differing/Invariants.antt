-- `lowest_differing` is the lowest cell that differs. Invariant: the search from cell i on has the answer of the whole search.
use Rattle.std.proofs.Common.{◌≡◌, length, drop}
use Rattle.scope.specs.Recovery.{table_of, differing}
use Rattle.medium.proofs.table.lowest_differing.Given as goal

abbrev pub invariant-loop-i : goal.invariant-loop-i
invariant-loop-i l = let T = table_of (length l.current) l.slots l.medium in
    differing T l.current 0 ≡ differing (drop l.i T) (drop l.i l.current) l.i
