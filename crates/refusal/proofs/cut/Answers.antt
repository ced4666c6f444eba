-- `refusal::cut` meets its contract. The tests asked part by part are the table's.
use Rattle.std.proofs.Common.{◌≡◌, refl, true, false, ◌||◌, [], ◌++◌, arith, ltb}
use Rattle.refusal.specs.Judges.{ready_tests}
use Rattle.refusal.proofs.Asking.{is_fit, stopped, holds, none_holds}
use Rattle.refusal.proofs.Faults.{cut_out, cut_moved, cut_last}
use Rattle.refusal.proofs.Lengths.{medium_rows}
use Rattle.refusal.proofs.Tables.{range_tests, moved_tests, dirty_tests, cut_table}
use Rattle.refusal.proofs.cut.Goals as goal

pub returns-in_err-ready : goal.returns-in_err-ready
returns-in_err-ready c =
    let a = c.args in
    stopped _ _ (ready_tests c.fit_first-fit.result a.phase) (range_tests a.numbers a.p ++ moved_tests a.numbers a.p a.medium.now ++ dirty_tests a.p a.first.now)
    (cut_table a.numbers a.phase a.medium.now [] a.first.now [] [] _ a.p c.fit_first-fit.ensures) _ _ c.from_residual.ensures.1 c.in_err-ready.ensures

pub returns-then-p-numbers : goal.returns-then-p-numbers
returns-then-p-numbers c =
    let a = c.args in
    let b : (ltb a.p a.numbers.h || (ltb a.numbers.f a.p || ltb a.numbers.o a.p)) ≡ true = grind arith in
    cut_out a.numbers a.phase a.p a.medium.now a.first.now _ c.fit_first-fit.ensures _ c.in_ok-ready.ensures b

pub cut_row-requires : goal.cut_row-requires
cut_row-requires c =
    let a = c.args in
    (medium_rows a.numbers a.phase a.medium.now [] a.first.now [] [] _ (is_fit _ _ _ (omega arith) c.in_ok-ready.ensures) c.fit_first-fit.ensures, omega arith)

pub returns-in_err-cut_row : goal.returns-in_err-cut_row
returns-in_err-cut_row c =
    let a = c.args in
    let b : (ltb a.p a.numbers.h || (ltb a.numbers.f a.p || ltb a.numbers.o a.p)) ≡ false = grind arith in
    cut_moved a.numbers a.phase a.p a.medium.now a.first.now _ c.fit_first-fit.ensures _ c.in_ok-ready.ensures b _ _ c.from_residual-in_err-cut_row.ensures.1
    c.in_err-cut_row.ensures.number c.in_err-cut_row.ensures.fault

pub returns-then-any_first : goal.returns-then-any_first
returns-then-any_first c =
    let a = c.args in
    let b : (ltb a.p a.numbers.h || (ltb a.numbers.f a.p || ltb a.numbers.o a.p)) ≡ false = grind arith in
    cut_last a.numbers a.phase a.p a.medium.now a.first.now _ c.fit_first-fit.ensures _ c.in_ok-ready.ensures b _ c.in_ok-cut_row.ensures.number
    (holds _ 9 _ (grind arith) refl refl)

pub returns : goal.returns
returns c =
    let a = c.args in
    let b : (ltb a.p a.numbers.h || (ltb a.numbers.f a.p || ltb a.numbers.o a.p)) ≡ false = grind arith in
    cut_last a.numbers a.phase a.p a.medium.now a.first.now _ c.fit_first-fit.ensures _ c.in_ok-ready.ensures b _ c.in_ok-cut_row.ensures.number
    (none_holds _ 9 _ (grind arith))
