-- `workspace::row_fault` meets its contract. By what the row reads as; one that is due has no fault.
use Rattle.workspace.proofs.Judging.{due_faultless, end-fault, wrong-fault}
use Rattle.workspace.proofs.row_fault.Goals as goal

pub returns-in-Ok : goal.returns-in-Ok
returns-in-Ok c = due_faultless _ _ _ _ _ _ _ c.in-Ok.ensures.entry c.admits.ensures c.if-admits.true

pub returns-in-Ok-2 : goal.returns-in-Ok-2
returns-in-Ok-2 c = end-fault _ _ _ _ _ _ _ c.in-Ok.ensures.entry c.admits.ensures c.in-Ok.ensures.reason c.if-admits.false

pub returns-in-Err : goal.returns-in-Err
returns-in-Err c = wrong-fault _ _ _ _ _ _ c.in-Err.ensures.reason
