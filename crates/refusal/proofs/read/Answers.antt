-- `refusal::read` meets its contract. The tests asked part by part are the table's.
use Rattle.std.proofs.Common.{◌≡◌, ◌&&◌, [], eqb, length, arith}
use Rattle.scope.specs.Keeper.{sound}
use Rattle.scope.specs.Refusals.{lent}
use Rattle.state.specs.State.{state_of}
use Rattle.state.specs.Lent.{lent_to}
use Rattle.refusal.specs.Judges.{run_tests, cell_tests}
use Rattle.refusal.proofs.Asking.{stopped, ended}
use Rattle.refusal.proofs.Tables.{read_table}
use Rattle.refusal.proofs.read.Goals as goal

pub returns-in_err-in_run : goal.returns-in_err-in_run
unfolding lent lent_to state_of
returns-in_err-in_run c =
    let a = c.args in
    let e : c.if-sound.fit ≡ (sound (state_of a.numbers a.phase) && eqb (length a.current.now) a.numbers.cells) = grind arith in
    stopped _ _ (run_tests c.if-sound.fit a.phase) (cell_tests a.numbers a.cell) (read_table a.numbers a.phase [] a.current.now [] [] [] c.if-sound.fit a.cell e) _ _ c.from_residual.ensures.1 c.in_err-in_run.ensures

pub returns : goal.returns
unfolding lent lent_to state_of
returns c =
    let a = c.args in
    let e : c.if-sound.fit ≡ (sound (state_of a.numbers a.phase) && eqb (length a.current.now) a.numbers.cells) = grind arith in
    ended _ _ (run_tests c.if-sound.fit a.phase) (cell_tests a.numbers a.cell) (read_table a.numbers a.phase [] a.current.now [] [] [] c.if-sound.fit a.cell e) _ _ (omega arith) c.in_ok-in_run.ensures c.in_table.ensures
