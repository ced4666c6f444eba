-- `walker::row_after` meets its contract: one case law for each way that it ends, over the row's number and what the row reads as.
use Prim.Native.Nat.{◌+◌}
use mathlib.Core.Path.{ap}
use Rattle.journal.proofs.RowPlaces.{number-from, read_from, wrong_from}
use Rattle.walker.proofs.Walking.{next-other, next-malformed, next-holds}
use Rattle.walker.proofs.row_after.Goals as goal

pub returns-then-get4-entry : goal.returns-then-get4-entry
returns-then-get4-entry c =
    let e = next-other c.args.medium.now c.args.slots c.args.cells c.args.n c.get4.result (number-from _ _ _ _ (ap (λ x. 32 + x) c.row_at-at.ensures.0) _ c.get4.ensures) c.if-get4-entry.true in
    record { met = e.0; fault = e.1 }

pub returns-in-Ok : goal.returns-in-Ok
returns-in-Ok c =
    let p = ap (λ x. 32 + x) c.row_at-at.ensures.0 in
    let e = next-holds c.args.medium.now c.args.slots c.args.cells c.args.n c.get4.result (number-from _ _ _ _ p _ c.get4.ensures) c.if-get4-entry.false _
    (read_from _ _ _ _ p _ _ c.in-Ok.ensures.entry) (wrong_from _ _ _ _ p _ _ c.in-Ok.ensures.reason) in
    record { met = e.0; fault = e.1 }

pub returns-in-Err : goal.returns-in-Err
returns-in-Err c =
    let p = ap (λ x. 32 + x) c.row_at-at.ensures.0 in
    let e = next-malformed c.args.medium.now c.args.slots c.args.cells c.args.n c.get4.result (number-from _ _ _ _ p _ c.get4.ensures) c.if-get4-entry.false _
    (read_from _ _ _ _ p _ _ c.in-Err.ensures.entry) (wrong_from _ _ _ _ p _ _ c.in-Err.ensures.reason) in
    record { met = e.0; fault = e.1 }
