-- `keeper::State::begin` meets its contract. Refused, or done: in run rolled back first.
use Rattle.std.proofs.Common.{◌≡◌, [], true, false, refl, sym, arith}
use Rattle.scope.specs.Keeper.{done, is_run}
use Rattle.scope.specs.Refusals.{Begin}
use Rattle.state.specs.State.{phase_of}
use Rattle.keeper.proofs.Passed.{begin_passed}
use Rattle.keeper.proofs.Transactions.{begin_run, begin_idle}
use Rattle.keeper.proofs.Unless.{refused-leaves, done-tells, rolled-tells}
use Rattle.keeper.proofs.State.begin.Goals as goal

pub returns-in-Err : goal.returns-in-Err
returns-in-Err c = refused-leaves Begin _ [] _ _ _ _ _ done (λ k. refl) _ c.refused.ensures c.in-Err.ensures

pub roll_back-requires : goal.roll_back-requires
roll_back-requires c =
    let a = c.args in
    let r : is_run (phase_of a.self.phase) ≡ true = grind arith in
    begin_passed a.self.numbers a.self.phase [] a.current.now a.first.now a.last.now a.waiting.now (sym c.in_default.ensures.number) r

pub returns-then-is_run : goal.returns-then-is_run
returns-then-is_run c =
    let s = c.args.self in
    let r : is_run (phase_of s.phase) ≡ true = grind arith in
    (begin_run s c.roll_back.result _ _ _ _ c.in_default.ensures.number _ r c.roll_back.ensures.0, rolled-tells Begin s [] _ _ _ _ c.roll_back.result _ c.roll_back.ensures.1 c.in_default.ensures)

pub returns : goal.returns
returns c =
    let s = c.args.self in
    let r : is_run (phase_of s.phase) ≡ false = grind arith in
    (begin_idle s _ _ _ _ _ c.in_default.ensures.number r c.done.ensures, done-tells Begin s [] _ _ _ _ _ _ _ _ c.done.ensures c.in_default.ensures)
