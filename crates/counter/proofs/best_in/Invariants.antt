-- `counter::best_in` meets its contract. Invariant: the best of the span that remains, after the best so far, is the best of the span.
use Prim.Native.Nat.{◌+◌, ◌-◌}
use mathlib.Core.Path.{◌≡◌}
use Rattle.scope.specs.Keeper.{cells_of}
use Rattle.counter.specs.Counter.{best_from, best_in}
use Rattle.counter.proofs.best_in.Given as goal

abbrev pub invariant-loop-cell : goal.invariant-loop-cell
invariant-loop-cell l =
    let u = l.fn.unit in
    let cells = cells_of (u.lowest + u.count) l.table in
    best_in l.sought cells u.lowest u.count ≡ best_from l.sought cells l.cell (u.lowest + u.count - l.cell) l.best
