-- Why a cell says what it says (ticket 3), entry by entry over the stored journal. "If no stored entry names the cell: table, 0, 0. Else the
-- last transaction that updates it decides: committed gives written, its last update of the cell and the commit's number; aborted or unfinished
-- gives restored, its first update of the cell and the abort's number or 0."
use Rattle.std.specs.Prelude.{ℕ, ◌+◌, List, [], ◌∷◌, eqb}
use Rattle.scope.specs.Bytes.{pick}
use Rattle.scope.specs.Row.{Entry, update, commit_entry, abort_entry}
use Rattle.scope.specs.Keeper.{first_mark}
use Rattle.reasons.specs.declared.Reason.TheVariants.{Table, Written, Restored}
use Rattle.reasons.specs.declared.Decision.{Decision}
use Rattle.reasons.specs.declared.Told.{Told}

-- before any entry
unfoldable pub untold : Told
untold = record { first = 0; last = 0; ended = record { reason = Table; entry = 0; end = 0 } }

-- a transaction that ends with entry n decides where it updates the cell, committed or undone
unfoldable pub written : ℕ → Told → Decision
written n t = pick (eqb t.first 0) t.ended (record { reason = Written; entry = t.last; end = n })

unfoldable pub restored : ℕ → Told → Decision
restored n t = pick (eqb t.first 0) t.ended (record { reason = Restored; entry = t.first; end = n })

-- entry n is read
unfoldable pub told : ℕ → ℕ → Entry → Told → Told
told c n (update d old new) t =
    pick (eqb c d) (record { first = first_mark t.first n; last = n; ended = t.ended }) t
told c n commit_entry t = record { first = 0; last = 0; ended = written n t }
told c n abort_entry t = record { first = 0; last = 0; ended = restored n t }

-- the entries after n are read
unfoldable pub tale : ℕ → ℕ → List Entry → Told → Told
tale c n [] t = t
tale c n (e ∷ es) t = tale c (n + 1) es (told c (n + 1) e t)

-- WHY cell c says what it says, by the entries after h: what is left without an end is undone, and its end is 0
unfoldable pub why : ℕ → ℕ → List Entry → Decision
why c h es = restored 0 (tale c h es untold)
