-- `values::last_met` meets its contract. The invariant: the entries after n have the last entry of all. The measure: how many may still count.
use Prim.Native.Nat.{◌-◌, ◌≤◌}
use mathlib.Core.Path.{◌≡◌}
use Rattle.scope.specs.Bytes.{number_at}
use Rattle.scope.specs.Recovery.{rows_of, entries_from, at_most, journal}
use Rattle.replay.specs.Replay.{last_of}
use Rattle.values.proofs.last_met.Given as goal

abbrev pub invariant-loop-seen : goal.invariant-loop-seen
invariant-loop-seen l = let k = number_at 4 0 l.medium in let slots = number_at 4 4 l.medium in let first = number_at 4 8 l.medium in
    (first ≤ l.n) × (last_of first (journal k slots first l.medium) ≡ last_of l.n (entries_from (rows_of slots l.medium) k (at_most slots first - (l.n - first)) l.n))

abbrev pub decreases-loop-seen : goal.decreases-loop-seen
decreases-loop-seen l = at_most (number_at 4 4 l.medium) (number_at 4 8 l.medium) - (l.n - number_at 4 8 l.medium)
