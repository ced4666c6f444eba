-- `refusal::write` meets its contract. The tests asked part by part are the table's.
use Rattle.std.proofs.Common.{[], ◌++◌, arith}
use Rattle.refusal.specs.Judges.{run_tests, cell_tests, room_tests}
use Rattle.refusal.proofs.Asking.{go_on, stopped, ended}
use Rattle.refusal.proofs.Tables.{write_table}
use Rattle.refusal.proofs.write.Goals as goal

pub returns-in_err-in_run : goal.returns-in_err-in_run
returns-in_err-in_run c v =
    let a = c.args in
    stopped _ _ (run_tests c.fit_workspaces-fit.result a.phase) (cell_tests a.numbers a.cell ++ room_tests a.numbers a.phase) (write_table a.numbers a.phase [] a.current.now a.first.now a.last.now a.waiting.now _ a.cell v c.fit_workspaces-fit.ensures) _ _ c.from_residual.ensures.1 c.in_err-in_run.ensures

pub returns-in_err-in_table : goal.returns-in_err-in_table
returns-in_err-in_table c v =
    let a = c.args in
    stopped _ _ (run_tests c.fit_workspaces-fit.result a.phase ++ cell_tests a.numbers a.cell) (room_tests a.numbers a.phase) (write_table a.numbers a.phase [] a.current.now a.first.now a.last.now a.waiting.now _ a.cell v c.fit_workspaces-fit.ensures) _ _ c.from_residual-in_err-in_table.ensures.1
    (go_on (run_tests c.fit_workspaces-fit.result a.phase) (cell_tests a.numbers a.cell) _ _ (omega arith) c.in_ok-in_run.ensures c.in_err-in_table.ensures)

pub returns : goal.returns
returns c v =
    let a = c.args in
    ended _ _ (run_tests c.fit_workspaces-fit.result a.phase ++ cell_tests a.numbers a.cell) (room_tests a.numbers a.phase) (write_table a.numbers a.phase [] a.current.now a.first.now a.last.now a.waiting.now _ a.cell v c.fit_workspaces-fit.ensures) _ _ (omega arith)
    (go_on (run_tests c.fit_workspaces-fit.result a.phase) (cell_tests a.numbers a.cell) _ _ (omega arith) c.in_ok-in_run.ensures c.in_ok-in_table.ensures) c.has_room.ensures
