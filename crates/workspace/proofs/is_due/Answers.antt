-- `workspace::is_due` meets its contract. By what the row reads as.
use Rattle.workspace.proofs.Judging.{not_held, due_holds}
use Rattle.workspace.proofs.is_due.Goals as goal

pub returns-in_default : goal.returns-in_default
returns-in_default c = not_held _ _ _ _ _ c.in_default.ensures.entry

pub returns : goal.returns
returns c = due_holds _ _ _ _ _ _ _ c.in-Ok.ensures.entry c.admits.ensures
