-- `refusal::open_rows` meets its contract. In run by the rows, else none.
use Rattle.std.proofs.Common.{◌≡◌, true, false, refl, arith}
use Rattle.scope.specs.Keeper.{is_run}
use Rattle.state.specs.State.{phase_of}
use Rattle.refusal.proofs.Faults.{open_none, open_run}
use Rattle.refusal.proofs.open_rows.Goals as goal

pub returns-then-not-is_run : goal.returns-then-not-is_run
returns-then-not-is_run c =
    let z : is_run (phase_of c.args.phase) ≡ false = grind arith in
    rw (← open_none c.args.numbers _ c.args.waiting.now z) (record { number = refl; fault = refl })

pub returns : goal.returns
returns c =
    let z : is_run (phase_of c.args.phase) ≡ true = grind arith in
    rw (← open_run c.args.numbers _ c.args.waiting.now z) c.rows_hold.ensures
