-- A walk over the rows of a medium: what stands after an entry, and the entries that a walk from h meets. proofs/Walking.antt shows that they are
-- the stored journal wherever recovery reads one.
use Rattle.std.specs.Prelude.{ℕ, zero, suc, ◌+◌, ◌-◌, Bool, ◌&&◌, List, [], ◌∷◌, ltb, leb, eqb}
use Rattle.std.specs.Prelude.{Result, Ok, Err, Some, None}
use Rattle.std.specs.declared.option.Option.{Option}
use Rattle.std.proofs.Math.Option as math
use Rattle.std.proofs.Math.Option.{none, some}
use Rattle.scope.specs.Bytes.{pick, max_no, number_at}
use Rattle.scope.specs.Row.{Entry, read_row, Fault, faultless, fault_at, wrong_entry}
use Rattle.scope.specs.Keeper.{is_head_ok}
use Rattle.scope.specs.Recovery.{rows_of, at_most}
use Rattle.row.specs.Row.{entry, fault_in}
use Rattle.row.specs.declared.Entry as entries
use Rattle.row.specs.declared.Fault as faults

-- the entry with its number, a row that does not read, or the journal's end
pub data Met : Type 0 where
  holds : ℕ → Entry → Met
  malformed end : Met

abbrev pub met : Option (Result (ℕ × entries.Entry) faults.Fault) → Met
met (Some (Ok x)) = holds x.0 (entry x.1)
met (Some (Err w)) = malformed
met None = end

-- what is wrong with the row that does not read
abbrev pub wrong_met : Option (Result (ℕ × entries.Entry) faults.Fault) → Fault
wrong_met (Some (Ok x)) = faultless
wrong_met (Some (Err w)) = fault_in w
wrong_met None = faultless

-- the entry after n may count: at most C after h do, and none past M
unfoldable pub counts : ℕ → ℕ → ℕ → Bool
counts slots h n = leb h n && (ltb n max_no && ltb (n - h) slots)

abbrev pub as_read : ℕ → math.Option Entry → Met
as_read n (some e) = holds n e
as_read n none = malformed

-- the row after entry n's is read while it holds that number
unfoldable pub next_in : (ℕ → List ℕ) → ℕ → ℕ → Met
next_in row cells n =
    pick (eqb (number_at 4 0 (row (n + 1))) (n + 1)) (as_read (n + 1) (read_row cells (n + 1) (row (n + 1)))) end

-- WHAT STANDS AFTER ENTRY n of a medium; where its head is out of rule, nothing does
unfoldable pub next_on : List ℕ → ℕ → Met
next_on m n =
    pick (is_head_ok m && counts (number_at 4 4 m) (number_at 4 8 m) n) (next_in (rows_of (number_at 4 4 m) m) (number_at 4 0 m) n) end

-- and what is wrong with it, where it does not read
unfoldable pub wrong_in : (ℕ → List ℕ) → ℕ → ℕ → Fault
wrong_in row cells n =
    pick (eqb (number_at 4 0 (row (n + 1))) (n + 1)) (fault_at (n + 1) (wrong_entry cells (n + 1) (row (n + 1))) faultless) faultless

unfoldable pub wrong_on : List ℕ → ℕ → Fault
wrong_on m n =
    pick (is_head_ok m && counts (number_at 4 4 m) (number_at 4 8 m) n) (wrong_in (rows_of (number_at 4 4 m) m) (number_at 4 0 m) n) faultless

abbrev pub followed : Met → List Entry → List Entry
followed (holds n e) es = e ∷ es
followed malformed es = []
followed end es = []

-- the entries that a walk meets after n, at most so many
unfoldable pub walked_from : List ℕ → ℕ → ℕ → List Entry
walked_from m zero n = []
walked_from m (suc left) n = followed (next_on m n) (walked_from m left (n + 1))

-- the entries that a walk from h meets
unfoldable pub walk : List ℕ → List Entry
walk m = walked_from m (at_most (number_at 4 4 m) (number_at 4 8 m)) (number_at 4 8 m)
