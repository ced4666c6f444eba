-- `forcing::force_all` meets its contract. The steps that remain, from here, leave what all leave from the start.
use Prim.Native.Nat.{◌-◌}
use mathlib.Core.List.{[]}
use mathlib.Core.Path.{◌≡◌}
use lib.ListN.{length}
use Rattle.scope.specs.Calls.{forced_by}
use Rattle.state.specs.declared.Phase.{Phase}
use Rattle.state.specs.Lent.{lent_to}
use Rattle.forcing.specs.Storing.{Storing}
use Rattle.forcing.proofs.force_all.Given as goal

abbrev pub invariant-loop-next : goal.invariant-loop-next
invariant-loop-next l = Storing l.next l.medium l.waiting × (length l.medium ≡ length l.initial.medium)
    × ((p : Phase) → forced_by (l.initial.next.l - l.initial.next.f) (lent_to l.initial.next p l.initial.medium [] [] [] l.waiting) ≡ forced_by (l.next.l - l.next.f) (lent_to l.next p l.medium [] [] [] l.waiting))

abbrev pub decreases-loop-next : goal.decreases-loop-next
decreases-loop-next l = l.next.l - l.next.f
