-- `refusal::cut_row` meets its contract. By what the row reads as.
use Rattle.std.proofs.Common.{sym, ap, ◌∙◌, arith}
use Rattle.scope.specs.Row.{is_entry, is_update}
use Rattle.refusal.proofs.Faults.{moved_silent, moved_told}
use Rattle.refusal.proofs.Tables.{moved_same, moved_none, moved-end, moved-update}
use Rattle.refusal.proofs.cut_row.Goals as goal

pub returns-then-p-numbers-clause-number : goal.returns-then-p-numbers-clause-number
returns-then-p-numbers-clause-number c = moved_same _ _ _ (omega arith)

pub returns-then-p-numbers-clause-fault : goal.returns-then-p-numbers-clause-fault
returns-then-p-numbers-clause-fault c = moved_silent 0 _ _ (λ z. omega arith)

pub returns-in-Ok-clause-number : goal.returns-in-Ok-clause-number
returns-in-Ok-clause-number c =
    moved-update _ _ _ (omega arith) (ap is_entry c.in-Ok.ensures.entry) (sym c.if-is_update.true ∙ c.is_update.ensures ∙ ap is_update c.in-Ok.ensures.entry)

pub returns-in-Ok-clause-fault : goal.returns-in-Ok-clause-fault
returns-in-Ok-clause-fault c = moved_silent 9 _ _ (λ z. omega arith)

pub returns-in-Ok-2-clause-number : goal.returns-in-Ok-2-clause-number
returns-in-Ok-2-clause-number c =
    moved-end _ _ _ (omega arith) (ap is_entry c.in-Ok.ensures.entry) (sym c.if-is_update.false ∙ c.is_update.ensures ∙ ap is_update c.in-Ok.ensures.entry)

pub returns-in-Ok-2-clause-fault : goal.returns-in-Ok-2-clause-fault
returns-in-Ok-2-clause-fault c = moved_silent 0 _ _ (λ z. omega arith)

pub returns-in-Err-clause-number : goal.returns-in-Err-clause-number
returns-in-Err-clause-number c = moved_none _ _ _ (omega arith) (ap is_entry c.in-Err.ensures.entry)

pub returns-in-Err-clause-fault : goal.returns-in-Err-clause-fault
returns-in-Err-clause-fault c = moved_told _ _ _ c.in-Err.ensures.reason
