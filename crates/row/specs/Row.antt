-- What the answer of reading a row means, and what is told of one.
use Rattle.std.specs.Prelude.{ℕ, ◌&&◌, ◌||◌, not, List, [], ◌∷◌, eqb, Result, Ok, Err, Some, None}
use Rattle.std.specs.declared.option.Option as code_option
use Rattle.std.proofs.Math.Option.{Option, none, some}
use Rattle.scope.specs.Bytes.{pick, number_at}
use Rattle.scope.specs.Row.{Entry, update, commit_entry, abort_entry, Reason, too_short, other_number, unknown_kind, filler_not_zero, cell_out_of_range, cell_left, old_left, new_left, not_update, hole, first_reason, Fault, faultless, fault}
use Rattle.row.specs.declared.Entry as code
use Rattle.row.specs.declared.Entry.TheVariants.{Update, Commit, Abort}
use Rattle.row.specs.declared.Reason as reasons
use Rattle.row.specs.declared.Reason.TheVariants.{TooShort, OtherNumber, UnknownKind, FillerNotZero, CellOutOfRange, CellLeft, OldLeft, NewLeft, NotUpdate, Hole}
use Rattle.row.specs.declared.Fault as faults

abbrev pub entry : code.Entry → Entry
entry (Update cell old new) = update cell old new
entry Commit = commit_entry
entry Abort = abort_entry

abbrev pub reason : reasons.Reason → Reason
reason TooShort = too_short
reason OtherNumber = other_number
reason UnknownKind = unknown_kind
reason FillerNotZero = filler_not_zero
reason CellOutOfRange = cell_out_of_range
reason CellLeft = cell_left
reason OldLeft = old_left
reason NewLeft = new_left
reason NotUpdate = not_update
reason Hole = hole

-- the entry, or nothing
abbrev pub meaning : Result code.Entry reasons.Reason → Option Entry
meaning (Ok e) = some (entry e)
meaning (Err x) = none

-- the first thing wrong, or nothing
abbrev pub reason_of : Result code.Entry reasons.Reason → Option Reason
reason_of (Ok e) = none
reason_of (Err x) = some (reason x)

-- what is told of rows: nothing, or a fault
abbrev pub fault_in : faults.Fault → Fault
fault_in w = fault (reason w.reason) w.entry

abbrev pub fault_of : code_option.Option faults.Fault → Fault
fault_of (Some w) = fault_in w
fault_of None = faultless

-- an end, whose cell, old and new are zero
unfoldable pub bare_end : Entry → ℕ → ℕ → ℕ → Option Entry
bare_end e cell old new = pick (eqb cell 0 && (eqb old 0 && eqb new 0)) (some e) none

-- what is left in an end
unfoldable pub left_over : ℕ → ℕ → ℕ → Option Reason
left_over cell old new = first_reason ((not (eqb cell 0), cell_left) ∷ (not (eqb old 0), old_left) ∷ (not (eqb new 0), new_left) ∷ [])

-- of a row that the kind, the filler or the cell's range makes unreadable: which
unfoldable pub unread_as : List ℕ → Reason
unread_as r =
    let kind = number_at 1 4 r in
    pick (not (eqb kind 1 || (eqb kind 2 || eqb kind 3))) unknown_kind
    (pick (not (eqb (number_at 3 5 r) 0 && eqb (number_at 4 12 r) 0)) filler_not_zero cell_out_of_range)

-- what is wrong with a row by the four bytes from its kind on, where its cell is in range
unfoldable pub wrong_of : List ℕ → ℕ → ℕ → ℕ → ℕ → Option Reason
wrong_of r kind cell old new =
    pick (eqb kind 1) none (pick (eqb kind 2 || eqb kind 3) (left_over cell old new) (some (unread_as r)))
