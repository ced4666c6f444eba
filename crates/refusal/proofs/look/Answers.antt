-- `refusal::look` meets its contract. The tests asked part by part are the table's.
use Rattle.std.proofs.Common.{◌≡◌, refl, true, false, ◌||◌, [], arith, ltb, leb}
use Rattle.refusal.specs.Judges.{ready_tests}
use Rattle.refusal.proofs.Asking.{holds, none_holds, stopped, ended}
use Rattle.refusal.proofs.Tables.{entry_tests, look_table}
use Rattle.refusal.proofs.look.Goals as goal
use Rattle.refusal.proofs.look.Goals.{then-n-numbers-via-then-n-numbers, then-n-numbers-via-else-n-numbers+then-numbers-n}

pub returns-in_err-ready : goal.returns-in_err-ready
returns-in_err-ready c =
    let a = c.args in
    stopped _ _ (ready_tests c.fit_rows-fit.result a.phase) (entry_tests a.numbers a.n) (look_table a.numbers a.phase a.medium.now [] [] [] a.waiting.now _ a.n c.fit_rows-fit.ensures) _ _ c.from_residual.ensures.1 c.in_err-ready.ensures

pub returns-then-n-numbers : goal.returns-then-n-numbers
returns-then-n-numbers c =
    let a = c.args in
    let t : (leb a.n a.numbers.h || ltb a.numbers.l a.n) ≡ true = grind arith in
    ended _ _ (ready_tests c.fit_rows-fit.result a.phase) (entry_tests a.numbers a.n) (look_table a.numbers a.phase a.medium.now [] [] [] a.waiting.now _ a.n c.fit_rows-fit.ensures) _ _ (omega arith) c.in_ok-ready.ensures (holds _ 11 _ t refl refl)

pub returns : goal.returns
returns c =
    let a = c.args in
    let t : (leb a.n a.numbers.h || ltb a.numbers.l a.n) ≡ false = grind arith in
    ended _ _ (ready_tests c.fit_rows-fit.result a.phase) (entry_tests a.numbers a.n) (look_table a.numbers a.phase a.medium.now [] [] [] a.waiting.now _ a.n c.fit_rows-fit.ensures) _ _ (omega arith) c.in_ok-ready.ensures (none_holds _ 11 _ t)
