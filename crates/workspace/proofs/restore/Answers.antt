-- `workspace::restore` meets its contract. By what the row reads as; an update that reads has its cell in the table.
use native.Mathlib.Omega.{arith}
use mathlib.Core.Path.{ap}
use Rattle.scope.specs.Row.{is_update}
use Rattle.journal.proofs.Meanings.{is-update, is_end, entry-below}
use Rattle.workspace.proofs.Restoring.{restore-other, restore-update}
use Rattle.workspace.proofs.restore.Goals as goal

pub returns-in_default : goal.returns-in_default
returns-in_default c = restore-other _ _ _ (ap is_update c.in_default.ensures.entry)

pub returns-in_default-what : goal.returns-in_default-what
returns-in_default-what c = restore-other _ _ _ (is_end _ _ c.entry_at.ensures.entry _ c.in-Ok.is c.in_default-what.not-Update)

pub assign-requires : goal.assign-requires
assign-requires c =
    let u = is-update _ _ c.entry_at.ensures.entry _ c.in-Ok.is _ _ _ c.in-Update.is in
    omega (arith, entry-below _ _ _ _ _ _ _ _ u)

pub returns : goal.returns
returns c =
    restore-update _ _ _ _ _ _ _ (is-update _ _ c.entry_at.ensures.entry _ c.in-Ok.is _ _ _ c.in-Update.is)
    c.assign.ensures
