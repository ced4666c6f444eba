-- `refusal::write_back` meets its contract. The tests asked part by part are the table's.
use Rattle.std.proofs.Common.{◌≡◌, refl, true, false, ◌&&◌, [], ◌++◌, arith, ltb, get_or}
use Rattle.refusal.specs.Judges.{ready_tests, cell_tests}
use Rattle.refusal.proofs.Asking.{holds, none_holds, go_on, is_fit, stopped, ended}
use Rattle.refusal.proofs.Lengths.{in_cells, marks_fit}
use Rattle.refusal.proofs.Tables.{stored_tests, back_table}
use Rattle.refusal.proofs.write_back.Goals as goal

pub returns-in_err-ready : goal.returns-in_err-ready
returns-in_err-ready c =
    let a = c.args in
    stopped _ _ (ready_tests c.fit_table-fit.result a.phase) (cell_tests a.numbers a.cell ++ stored_tests a.numbers a.cell a.first.now a.last.now) (back_table a.numbers a.phase a.medium.now a.current.now a.first.now a.last.now [] _ a.cell c.fit_table-fit.ensures) _ _ c.from_residual.ensures.1 c.in_err-ready.ensures

pub returns-in_err-in_table : goal.returns-in_err-in_table
returns-in_err-in_table c =
    let a = c.args in
    stopped _ _ (ready_tests c.fit_table-fit.result a.phase ++ cell_tests a.numbers a.cell) (stored_tests a.numbers a.cell a.first.now a.last.now) (back_table a.numbers a.phase a.medium.now a.current.now a.first.now a.last.now [] _ a.cell c.fit_table-fit.ensures) _ _ c.from_residual-in_err-in_table.ensures.1
    (go_on (ready_tests c.fit_table-fit.result a.phase) (cell_tests a.numbers a.cell) _ _ (omega arith) c.in_ok-ready.ensures c.in_err-in_table.ensures)

pub bounds-first-at : goal.bounds-first-at
bounds-first-at c =
    let a = c.args in
    let m = marks_fit a.numbers a.phase a.medium.now a.current.now a.first.now a.last.now [] _ (is_fit _ _ _ (omega arith) c.in_ok-ready.ensures) c.fit_table-fit.ensures in
    omega (arith, m.0, in_cells a.numbers a.cell _ c.in_ok-in_table.ensures)

pub bounds-last-at : goal.bounds-last-at
bounds-last-at c =
    let a = c.args in
    let m = marks_fit a.numbers a.phase a.medium.now a.current.now a.first.now a.last.now [] _ (is_fit _ _ _ (omega arith) c.in_ok-ready.ensures) c.fit_table-fit.ensures in
    omega (arith, m.1, in_cells a.numbers a.cell _ c.in_ok-in_table.ensures)

pub returns-then-numbers-last : goal.returns-then-numbers-last
returns-then-numbers-last c =
    let a = c.args in
    let t : (ltb 0 (get_or a.first.now a.cell 0) && ltb a.numbers.f (get_or a.last.now a.cell 0)) ≡ true = grind arith in
    ended _ _ (ready_tests c.fit_table-fit.result a.phase ++ cell_tests a.numbers a.cell) (stored_tests a.numbers a.cell a.first.now a.last.now) (back_table a.numbers a.phase a.medium.now a.current.now a.first.now a.last.now [] _ a.cell c.fit_table-fit.ensures) _ _ (omega arith)
    (go_on (ready_tests c.fit_table-fit.result a.phase) (cell_tests a.numbers a.cell) _ _ (omega arith) c.in_ok-ready.ensures c.in_ok-in_table.ensures) (holds _ 8 _ t refl refl)

pub returns : goal.returns
returns c =
    let a = c.args in
    let t : (ltb 0 (get_or a.first.now a.cell 0) && ltb a.numbers.f (get_or a.last.now a.cell 0)) ≡ false = grind arith in
    ended _ _ (ready_tests c.fit_table-fit.result a.phase ++ cell_tests a.numbers a.cell) (stored_tests a.numbers a.cell a.first.now a.last.now) (back_table a.numbers a.phase a.medium.now a.current.now a.first.now a.last.now [] _ a.cell c.fit_table-fit.ensures) _ _ (omega arith)
    (go_on (ready_tests c.fit_table-fit.result a.phase) (cell_tests a.numbers a.cell) _ _ (omega arith) c.in_ok-ready.ensures c.in_ok-in_table.ensures) (none_holds _ 8 _ t)
