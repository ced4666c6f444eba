-- `workspace::any_first` meets its contract. What was found and the cells that remain decide what all decide.
use lib.ListN.{drop}
use mathlib.Core.Bool.{◌||◌}
use mathlib.Core.Path.{◌≡◌}
use Rattle.scope.specs.Refusals.{any_first}
use Rattle.workspace.proofs.any_first.Given as goal

abbrev pub invariant-loop-mark : goal.invariant-loop-mark
invariant-loop-mark l = any_first l.p l.first ≡ (l.found || any_first l.p (drop l.mark-index l.first))
