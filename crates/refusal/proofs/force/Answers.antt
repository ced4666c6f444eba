-- `refusal::force` meets its contract. The tests asked part by part are the table's; the last by what the row reads as.
use Rattle.std.proofs.Common.{[], ap, arith}
use Rattle.scope.specs.Row.{is_entry}
use Rattle.refusal.specs.Judges.{ready_tests}
use Rattle.refusal.proofs.Asking.{is_fit, stopped, ended}
use Rattle.refusal.proofs.Faults.{force_none, force_entry, force_bad, force_names}
use Rattle.refusal.proofs.Lengths.{waiting_fits}
use Rattle.refusal.proofs.Tables.{force_tests, force_table}
use Rattle.refusal.proofs.force.Goals as goal

pub returns-in_err-ready : goal.returns-in_err-ready
returns-in_err-ready c =
    let a = c.args in
    stopped _ _ (ready_tests c.fit_rows-fit.result a.phase) (force_tests a.numbers a.waiting.now) (force_table a.numbers a.phase a.medium.now [] [] [] a.waiting.now _ c.fit_rows-fit.ensures) _ _ c.from_residual.ensures.1 c.in_err-ready.ensures

pub returns-then-numbers : goal.returns-then-numbers
returns-then-numbers c =
    let a = c.args in
    ended _ _ (ready_tests c.fit_rows-fit.result a.phase) (force_tests a.numbers a.waiting.now) (force_table a.numbers a.phase a.medium.now [] [] [] a.waiting.now _ c.fit_rows-fit.ensures) _ _ (omega arith) c.in_ok-ready.ensures
    (force_none a.numbers a.waiting.now _ (omega arith))

pub entry_at-requires : goal.entry_at-requires
entry_at-requires c =
    waiting_fits _ _ c.args.medium.now [] [] [] _ _ (is_fit _ _ _ (omega arith) c.in_ok-ready.ensures) c.fit_rows-fit.ensures _ (omega arith)

pub returns-in-Ok : goal.returns-in-Ok
returns-in-Ok c =
    let a = c.args in
    ended _ _ (ready_tests c.fit_rows-fit.result a.phase) (force_tests a.numbers a.waiting.now) (force_table a.numbers a.phase a.medium.now [] [] [] a.waiting.now _ c.fit_rows-fit.ensures) _ _ (omega arith) c.in_ok-ready.ensures
    (force_entry a.numbers a.waiting.now _ (ap is_entry c.in-Ok.ensures.entry))

pub returns-in-Err : goal.returns-in-Err
returns-in-Err c =
    let a = c.args in
    force_bad a.numbers a.phase a.medium.now a.waiting.now _ _ _ c.fit_rows-fit.ensures c.in_ok-ready.ensures (omega arith) (ap is_entry c.in-Err.ensures.entry)
    (force_names a.numbers a.phase a.medium.now a.waiting.now _ c.in-Err.ensures.reason)
