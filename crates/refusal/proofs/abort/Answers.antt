-- `refusal::abort` meets its contract. The tests asked part by part are the table's.
use Rattle.std.proofs.Common.{[], ◌∷◌, arith}
use Rattle.refusal.specs.Judges.{ready_tests}
use Rattle.refusal.proofs.Asking.{is_fit, stopped}
use Rattle.refusal.proofs.Faults.{told_last, found_bad, abort_names}
use Rattle.refusal.proofs.Lengths.{workspaces_fit}
use Rattle.refusal.proofs.Tables.{abort_table}
use Rattle.refusal.proofs.abort.Goals as goal

pub returns-in_err-ready : goal.returns-in_err-ready
returns-in_err-ready c =
    let a = c.args in
    stopped _ _ (ready_tests c.fit_workspaces-fit.result a.phase) ((_, 7) ∷ []) (abort_table a.numbers a.phase [] a.current.now a.first.now a.last.now a.waiting.now _ c.fit_workspaces-fit.ensures) _ _ c.from_residual.ensures.1 c.in_err-ready.ensures

pub open_rows-requires : goal.open_rows-requires
open_rows-requires c =
    let a = c.args in
    workspaces_fit _ _ [] a.current.now a.first.now a.last.now _ _ (is_fit _ _ _ (omega arith) c.in_ok-ready.ensures) c.fit_workspaces-fit.ensures 1 (omega arith)

pub returns : goal.returns
returns c =
    let a = c.args in
    told_last _ _ (ready_tests c.fit_workspaces-fit.result a.phase) _ (abort_table a.numbers a.phase [] a.current.now a.first.now a.last.now a.waiting.now _ c.fit_workspaces-fit.ensures) _ _ _ (omega arith) c.in_ok-ready.ensures c.open_rows.ensures
    (found_bad a.numbers a.phase [] a.current.now a.first.now a.last.now a.waiting.now) (abort_names a.numbers a.phase [] a.current.now a.first.now a.last.now a.waiting.now)
