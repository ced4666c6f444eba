-- `workspace::lowest_fault` meets its contract. The rows that remain have the same lowest fault.
use Prim.Native.Nat.{◌-◌}
use mathlib.Core.Path.{◌≡◌}
use Rattle.scope.specs.Row.{lowest_fault}
use Rattle.workspace.specs.Values.{wrong_due}
use Rattle.workspace.proofs.lowest_fault.Given as goal

abbrev pub invariant-loop-m : goal.invariant-loop-m
invariant-loop-m l = lowest_fault (wrong_due l.due l.waiting l.slots l.cells) (l.to - l.from) l.from ≡ lowest_fault (wrong_due l.due l.waiting l.slots l.cells) (l.to - l.m) l.m
