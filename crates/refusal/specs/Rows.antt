-- What a refusal asks of rows, in the code's numbers.
use Rattle.std.specs.Prelude.{ℕ, ◌-◌, ◌&&◌, not, List, eqb}
use Rattle.std.proofs.Math.Option.{Option}
use Rattle.scope.specs.Bytes.{pick}
use Rattle.scope.specs.Row.{Entry, is_entry, is_update, Reason, Fault, faultless, fault_at, lowest_fault}
use Rattle.scope.specs.Keeper.{is_run}
use Rattle.state.specs.State.{phase_of}
use Rattle.state.specs.declared.Numbers.{Numbers}
use Rattle.state.specs.declared.Phase.{Phase}
use Rattle.workspace.specs.Values.{wrong_update_in}

-- in run the lowest waiting row of o+1 to l that isn't that update
unfoldable pub open_fault_in : Numbers → Phase → List ℕ → Fault
open_fault_in n p waiting = pick (is_run (phase_of p)) (lowest_fault (wrong_update_in waiting n.slots n.cells) (n.l - n.o) n.o) faultless

-- cut: what the row of p says, where p is not h, and what is told of it beside 7
unfoldable pub moved_no : ℕ → ℕ → Option Entry → ℕ
moved_no h p e = pick (not (eqb p h) && not (is_entry e)) 7 (pick (not (eqb p h) && is_update e) 9 0)

unfoldable pub moved_fault : ℕ → ℕ → Option Reason → Fault
moved_fault number p wrong = pick (eqb number 7) (fault_at p wrong faultless) faultless
