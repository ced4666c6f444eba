-- `refusal::commit` meets its contract. The tests asked part by part are the table's.
use Rattle.std.proofs.Common.{[], ◌∷◌, arith}
use Rattle.refusal.specs.Judges.{run_tests}
use Rattle.refusal.proofs.Asking.{is_fit, stopped}
use Rattle.refusal.proofs.Faults.{told_last, to_judge, commit_names}
use Rattle.refusal.proofs.Lengths.{waiting_fits}
use Rattle.refusal.proofs.Tables.{commit_table}
use Rattle.refusal.proofs.commit.Goals as goal

pub returns-in_err-in_run : goal.returns-in_err-in_run
returns-in_err-in_run c =
    let a = c.args in
    stopped _ _ (run_tests c.fit_rows-fit.result a.phase) ((_, 7) ∷ []) (commit_table a.numbers a.phase a.medium.now [] [] [] a.waiting.now _ c.fit_rows-fit.ensures) _ _ c.from_residual.ensures.1 c.in_err-in_run.ensures

pub rows_hold-requires : goal.rows_hold-requires
rows_hold-requires c =
    waiting_fits _ _ c.args.medium.now [] [] [] _ _ (is_fit _ _ _ (omega arith) c.in_ok-in_run.ensures) c.fit_rows-fit.ensures 1 (omega arith)

pub returns : goal.returns
returns c =
    let a = c.args in
    told_last _ _ (run_tests c.fit_rows-fit.result a.phase) _ (commit_table a.numbers a.phase a.medium.now [] [] [] a.waiting.now _ c.fit_rows-fit.ensures) _ _ _ (omega arith) c.in_ok-in_run.ensures c.rows_hold.ensures
    (to_judge a.numbers a.phase a.medium.now a.waiting.now) (λ t. commit_names a.numbers a.phase a.medium.now a.waiting.now)
