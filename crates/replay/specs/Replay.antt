-- Replay by entry numbers, as its loops go. The calls' contracts cite the papers' definitions; proofs/Replaying.antt shows that these say
-- the same.
use Rattle.std.specs.Prelude.{ℕ, zero, suc, ◌+◌, ◌-◌, List, length, set, Result, Ok, Err}
use Rattle.std.proofs.Math.Option.{Option, none, some}
use Rattle.scope.specs.Row.{Entry, update, commit_entry, abort_entry, Fault, faultless}
use Rattle.row.specs.declared.Fault as code
use Rattle.row.specs.Row.{fault_in}

-- the last entry that counts, or none where a row does not read
abbrev pub last_of : ℕ → Option (List Entry) → Option ℕ
last_of h (some es) = some (h + length es)
last_of h none = none

abbrev pub upto : Result ℕ code.Fault → Option ℕ
upto (Ok e) = some e
upto (Err w) = none

-- what is wrong with the row that does not read
abbrev pub malformed : Result ℕ code.Fault → Fault
malformed (Ok e) = faultless
malformed (Err w) = fault_in w

-- one entry undone: an update's old value is put back
abbrev pub undo_entry : Option Entry → List ℕ → List ℕ
undo_entry (some (update c old new)) t = set t c old
undo_entry (some commit_entry) t = t
undo_entry (some abort_entry) t = t
undo_entry none t = t

-- entries s + k, .., s + 1 undone, in falling order
unfoldable pub undo_from : (ℕ → Option Entry) → ℕ → ℕ → List ℕ → List ℕ
undo_from e s zero t = t
undo_from e s (suc k) t = undo_from e s k (undo_entry (e (s + suc k)) t)

-- an entry after n replayed, where the open transaction's updates come after s: the table, and the next s
abbrev pub replay_entry : (ℕ → Option Entry) → Option Entry → ℕ → ℕ → List ℕ → List ℕ
replay_entry e (some (update c old new)) s n t = set t c new
replay_entry e (some commit_entry) s n t = t
replay_entry e (some abort_entry) s n t = undo_from e s (n - s) t
replay_entry e none s n t = t

-- none: the row isn't that entry
abbrev pub open_after : Option Entry → ℕ → ℕ → Option ℕ
open_after (some (update c old new)) s n = some s
open_after (some commit_entry) s n = some n
open_after (some abort_entry) s n = some n
open_after none s n = none

abbrev pub opened : Result ℕ code.Fault → Option ℕ
opened (Ok s) = some s
opened (Err w) = none

abbrev pub onward : Option ℕ → (ℕ → Option (List ℕ)) → Option (List ℕ)
onward (some s) f = f s
onward none f = none

-- `left` entries after n replayed, and what is left open undone; none: a row isn't its entry
unfoldable pub replay_from : (ℕ → Option Entry) → ℕ → ℕ → ℕ → List ℕ → Option (List ℕ)
replay_from e zero s n t = some (undo_from e s (n - s) t)
replay_from e (suc left) s n t =
    onward (open_after (e (n + 1)) s (n + 1)) (λ s'. replay_from e left s' (n + 1) (replay_entry e (e (n + 1)) s n t))

-- whether each row is its entry, and the table then
abbrev pub replayed : Result Unit code.Fault → List ℕ → Option (List ℕ)
replayed (Ok u) t = some t
replayed (Err w) t = none
