-- `reasons::tell_all` meets its contract. The invariant: what remains of the walk, after what was read, says what all of it says. The measure: how many
-- entries it may still meet.
use Prim.Native.Nat.{◌-◌}
use mathlib.Core.Path.{◌≡◌}
use Rattle.scope.specs.Bytes.{number_at}
use Rattle.scope.specs.Recovery.{at_most}
use Rattle.walker.specs.Walk.{walked_from, walk}
use Rattle.reasons.specs.Reason.{untold, tale}
use Rattle.reasons.proofs.tell_all.Given as goal

abbrev pub invariant-loop-seen : goal.invariant-loop-seen
invariant-loop-seen l = tale l.cell l.h (walk l.medium) untold ≡ tale l.cell l.n (walked_from l.medium (at_most (number_at 4 4 l.medium) l.h - (l.n - l.h)) l.n) l.t

abbrev pub decreases-loop-seen : goal.decreases-loop-seen
decreases-loop-seen l = at_most (number_at 4 4 l.medium) l.h - (l.n - l.h)
