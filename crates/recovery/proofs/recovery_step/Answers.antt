-- `recovery_step` is the papers' step: one law for each way that it ends; a step that isn't refused has its buffers' lengths, and the lowest differing cell is within.
use native.Mathlib.Omega.{arith}
use Rattle.std.proofs.Common.{sym, ap, ◌∙◌}
use Rattle.std.proofs.lemmas.Result.{err_from_is_err_and}
use Rattle.answer.specs.Answer.{number_in, told_in}
use Rattle.answer.proofs.Refusals.{number-above}
use Rattle.recovery.proofs.Recovering.{step_silent, step_refused, stepping, step_inside, step_room, step_cell, step_last}
use Rattle.recovery.proofs.recovery_step.Goals as goal

pub returns-in_err-step_refusal : goal.returns-in_err-step_refusal
returns-in_err-step_refusal c =
    let a = c.args in
    let p = err_from_is_err_and c.from_residual.result c.from_residual.ensures.1 in
    rw (p.1, p.2) (
      step_refused a.numbers a.phase a.medium.now a.current.now _ (sym (ap number_in c.in_err-step_refusal.was) ∙ c.step_refusal.ensures.number) (number-above _),
      sym (ap told_in c.in_err-step_refusal.was) ∙ c.step_refusal.ensures.fault ∙ step_silent _,
    )

pub lowest_differing-requires : goal.lowest_differing-requires
lowest_differing-requires c =
    let a = c.args in
    let f = stepping a.numbers a.phase a.medium.now a.current.now _ (sym (ap number_in c.in_ok-step_refusal.was) ∙ c.step_refusal.ensures.number) (omega arith) in
    omega arith

pub bounds-current-index : goal.bounds-current-index
bounds-current-index c =
    let a = c.args in
    omega (arith, step_inside a.numbers a.phase a.medium.now a.current.now _ (sym (ap number_in c.in_ok-step_refusal.was) ∙ c.step_refusal.ensures.number) (omega arith) _ c.lowest_differing.ensures _ c.in-Some.is)

pub store_cell-requires : goal.store_cell-requires
store_cell-requires c =
    let a = c.args in
    step_room a.numbers a.phase a.medium.now a.current.now _ (sym (ap number_in c.in_ok-step_refusal.was) ∙ c.step_refusal.ensures.number) (omega arith) _ c.lowest_differing.ensures _ c.in-Some.is

pub returns-in-Some : goal.returns-in-Some
returns-in-Some c =
    let a = c.args in
    (step_cell a.numbers a.phase a.medium.now a.current.now _ (sym (ap number_in c.in_ok-step_refusal.was) ∙ c.step_refusal.ensures.number) (omega arith) _ c.lowest_differing.ensures _ c.in-Some.is _ _ c.index.ensures.0 c.store_cell.ensures, step_silent _)

pub step_end-requires : goal.step_end-requires
step_end-requires c =
    let a = c.args in
    let f = stepping a.numbers a.phase a.medium.now a.current.now _ (sym (ap number_in c.in_ok-step_refusal.was) ∙ c.step_refusal.ensures.number) (omega arith) in
    omega arith

pub returns : goal.returns
returns c =
    let a = c.args in
    (step_last a.numbers a.phase a.medium.now a.current.now _ (sym (ap number_in c.in_ok-step_refusal.was) ∙ c.step_refusal.ensures.number) (omega arith) _ c.lowest_differing.ensures c.in_default.is _ _ _ _ (c.step_end.ensures a.phase a.current.now), step_silent _)
