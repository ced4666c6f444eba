-- Current values, `first` and `last`, as the loops over waiting rows change them. The calls' contracts cite the papers' definitions;
-- proofs/Alike.antt shows that these say the same.
use Rattle.std.specs.Prelude.{ℕ, zero, suc, ◌+◌, ◌-◌, ◌≡◌, Bool, List, length, get_or, set, take, drop}
use Rattle.std.proofs.Math.Option.{Option, none, some}
use Rattle.scope.specs.Row.{Entry, update, commit_entry, abort_entry, is_update, is_entry, Reason, wrong_update}
use Rattle.scope.specs.Keeper.{first_mark, row_at}
use Rattle.journal.specs.Entries.{wrong_in}
use Rattle.workspace.specs.declared.Due.{Due}
use Rattle.workspace.specs.declared.Due.TheVariants.{Entries, Updates}

pub record Values : Type 0 where
  pub current : List ℕ
  pub first : List ℕ
  pub last : List ℕ

unfoldable pub values : List ℕ → List ℕ → List ℕ → Values
values current first last = record { current = current; first = first; last = last }

-- all three have a place for each cell
pub record Fits (cells : ℕ) (current first last : List ℕ) : Type 0 where
  pub in_current : length current ≡ cells
  pub in_first : length first ≡ cells
  pub in_last : length last ≡ cells

-- cell c gets the value v by entry n
unfoldable pub assigned : ℕ → ℕ → ℕ → Values → Values
assigned n c v d = values (set d.current c v) (set d.first c (first_mark (get_or d.first c 0) n)) (set d.last c n)

-- an update's old value restored, by entry n
unfoldable pub restored : ℕ → Option Entry → Values → Values
restored n (some (update c old new)) d = assigned n c old d
restored n (some commit_entry) d = d
restored n (some abort_entry) d = d
restored n none d = d

-- the updates of the `count` entries that end with m restored, in falling order, by entry n
unfoldable pub rolled_from : (ℕ → Option Entry) → ℕ → ℕ → ℕ → Values → Values
rolled_from e n zero m d = d
rolled_from e n (suc count) m d = rolled_from e n count (m - 1) (restored n (e m) d)

-- what is wrong with the waiting row of entry n, which must be that update
unfoldable pub wrong_update_in : List ℕ → ℕ → ℕ → ℕ → Option Reason
wrong_update_in waiting slots cells n = wrong_update cells n (take 32 (drop (0 + row_at slots n) waiting))

-- whether what a row reads as is due: any entry, or an update
abbrev pub is_due : Due → Option Entry → Bool
is_due Entries e = is_entry e
is_due Updates e = is_update e

-- what is wrong with the waiting row of entry n, which must be that entry and, where updates are due, that update
unfoldable pub wrong_due : Due → List ℕ → ℕ → ℕ → ℕ → Option Reason
wrong_due Entries waiting = wrong_in waiting 0
wrong_due Updates waiting = wrong_update_in waiting
