-- The loops' forms are the papers': rolling back a keeper changes its values alone, by induction on the rows.
use Prim.Native.Nat.{ℕ, zero, suc, ◌-◌}
use mathlib.Core.Path.{◌≡◌, refl, sym, ap, ◌∙◌}
use mathlib.Core.Option.{Option, none, some}
use native.Mathlib.Nat.{zero-add}
use Rattle.scope.specs.Row.{Entry, update, commit_entry, abort_entry, read_row, wrong_entry, wrong_update}
use Rattle.scope.specs.Keeper.{Keeper, waiting_row, assign}
use Rattle.scope.specs.Recovery.{restore, rollback}
use Rattle.journal.specs.Entries.{entry_in, wrong_in}
use Rattle.workspace.specs.Values.{Values, values, assigned, restored, rolled_from, wrong_update_in}

-- a keeper with these values, and the rest of k
abbrev pub with_values : Keeper → Values → Keeper
with_values k d = record { medium = k.medium; current = d.current; first = d.first; last = d.last; waiting = k.waiting; state = k.state }

pub waiting-entry : (k : Keeper) (m : ℕ) → read_row k.state.cells m (waiting_row k m) ≡ entry_in k.waiting 0 k.state.slots k.state.cells m
unfolding waiting_row entry_in
waiting-entry k m = rw zero-add

pub waiting_wrong : (k : Keeper) (m : ℕ) → wrong_update k.state.cells m (waiting_row k m) ≡ wrong_update_in k.waiting k.state.slots k.state.cells m
unfolding waiting_row wrong_update_in
waiting_wrong k m = rw zero-add

pub waiting_unread : (k : Keeper) (m : ℕ) → wrong_entry k.state.cells m (waiting_row k m) ≡ wrong_in k.waiting 0 k.state.slots k.state.cells m
unfolding waiting_row wrong_in
waiting_unread k m = rw zero-add

restore-values : (k : Keeper) (n : ℕ) (o : Option Entry) (d : Values) → with_values k (restored n o d) ≡ restore n o (with_values k d)
unfolding restored restore assigned assign values
restore-values k n none d = refl
restore-values k n (some (update c a b)) d = refl
restore-values k n (some commit_entry) d = refl
restore-values k n (some abort_entry) d = refl

pub rollback-values : (k : Keeper) (n count m : ℕ) (d : Values)
    → with_values k (rolled_from (entry_in k.waiting 0 k.state.slots k.state.cells) n count m d) ≡ rollback n count m (with_values k d)
unfolding rolled_from rollback
rollback-values k n zero m d = refl
rollback-values k n (suc count) m d =
    rollback-values k n count (m - 1) (restored n (entry_in k.waiting 0 k.state.slots k.state.cells m) d)
    ∙ ap (rollback n count (m - 1)) (restore-values k n _ d ∙ ap (λ o. restore n o (with_values k d)) (sym (waiting-entry (with_values k d) m)))
