-- `workspace::rollback` meets its contract. The rows that remain, rolled back from here, give what all give from the start.
use Prim.Native.Nat.{◌-◌}
use mathlib.Core.Path.{◌≡◌}
use Rattle.journal.specs.Entries.{entry_in}
use Rattle.workspace.specs.Values.{values, Fits, rolled_from}
use Rattle.workspace.proofs.rollback.Given as goal

abbrev pub invariant-loop-m : goal.invariant-loop-m
invariant-loop-m l = Fits l.cells l.current l.first l.last
    × (rolled_from (entry_in l.waiting 0 l.slots l.cells) l.n (l.l - l.o) l.l (values l.initial.current l.initial.first l.initial.last) ≡ rolled_from (entry_in l.waiting 0 l.slots l.cells) l.n (l.m - l.o) l.m (values l.current l.first l.last))
