-- `load` reads the whole table. Invariant: the first i values are the table's, the others as they were.
use Rattle.std.proofs.Common.{◌≡◌, ◌++◌, length, take, drop}
use Rattle.scope.specs.Recovery.{table_of}
use Rattle.medium.proofs.table.load.Given as goal

abbrev pub invariant-loop-i : goal.invariant-loop-i
invariant-loop-i l = l.current ≡ take l.i (table_of (length l.initial.current) l.slots l.medium) ++ drop l.i l.initial.current
