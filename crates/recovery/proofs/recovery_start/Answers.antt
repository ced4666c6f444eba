-- `recovery_start` is the papers' start: one law for each way that it ends; scan gives the entries, load and replay the table.
use Rattle.std.proofs.Common.{arith}
use Rattle.recovery.proofs.Recovering.{start_unfit, start_head, start_lent, start_malformed, start_upto, start_read, start_done}
use Rattle.recovery.proofs.recovery_start.Goals as goal

pub returns-then-not-start_fits : goal.returns-then-not-start_fits
returns-then-not-start_fits c =
    let a = c.args in
    start_unfit a.medium.now a.current.now a.first.now a.last.now a.waiting.now _ c.start_fits.ensures (grind arith)

pub get4-cells-requires : goal.get4-cells-requires
get4-cells-requires c =
    let a = c.args in
    let f = start_head a.medium.now a.current.now a.first.now a.last.now a.waiting.now _ c.start_fits.ensures (grind arith) in
    omega arith

pub get4-slots-requires : goal.get4-slots-requires
get4-slots-requires c =
    let a = c.args in
    let f = start_head a.medium.now a.current.now a.first.now a.last.now a.waiting.now _ c.start_fits.ensures (grind arith) in
    omega arith

pub get4-h-requires : goal.get4-h-requires
get4-h-requires c =
    let a = c.args in
    let f = start_head a.medium.now a.current.now a.first.now a.last.now a.waiting.now _ c.start_fits.ensures (grind arith) in
    omega arith

pub scan-requires : goal.scan-requires
scan-requires c =
    let a = c.args in
    let f = start_head a.medium.now a.current.now a.first.now a.last.now a.waiting.now _ c.start_fits.ensures (grind arith) in
    omega arith

pub returns-in-Err : goal.returns-in-Err
returns-in-Err c =
    let a = c.args in
    start_malformed a.medium.now a.current.now a.first.now a.last.now a.waiting.now _ c.start_fits.ensures (grind arith) c.get4-cells.result c.get4-slots.result c.get4-h.result c.get4-cells.ensures c.get4-slots.ensures c.get4-h.ensures _ (c.scan.ensures.entries, c.scan.ensures.fault) _ c.in-Err.is

pub load-requires : goal.load-requires
load-requires c =
    let a = c.args in
    let f = start_head a.medium.now a.current.now a.first.now a.last.now a.waiting.now _ c.start_fits.ensures (grind arith) in
    let l = start_lent a.medium.now a.current.now a.first.now a.last.now a.waiting.now _ c.start_fits.ensures (grind arith) in
    omega arith

pub replay-requires : goal.replay-requires
replay-requires c =
    let a = c.args in
    let f = start_head a.medium.now a.current.now a.first.now a.last.now a.waiting.now _ c.start_fits.ensures (grind arith) in
    let l = start_lent a.medium.now a.current.now a.first.now a.last.now a.waiting.now _ c.start_fits.ensures (grind arith) in
    let u = start_upto a.medium.now a.current.now a.first.now a.last.now a.waiting.now _ c.start_fits.ensures (grind arith) c.get4-cells.result c.get4-slots.result c.get4-h.result c.get4-cells.ensures c.get4-slots.ensures c.get4-h.ensures _ (c.scan.ensures.entries, c.scan.ensures.fault) _ c.in-Ok.is (omega arith) in
    (omega arith, (omega arith, u))

pub returns-in-Err-replay : goal.returns-in-Err-replay
returns-in-Err-replay c =
    let a = c.args in
    absurd (start_read a.medium.now a.current.now a.first.now a.last.now a.waiting.now _ c.start_fits.ensures (grind arith) c.get4-cells.result c.get4-slots.result c.get4-h.result c.get4-cells.ensures c.get4-slots.ensures c.get4-h.ensures _ (c.scan.ensures.entries, c.scan.ensures.fault) _ c.in-Ok.is _ _ _ c.load.ensures c.replay.ensures _ c.in-Err-replay.is)

pub returns : goal.returns
returns c =
    let a = c.args in
    start_done a.medium.now a.current.now a.first.now a.last.now a.waiting.now _ c.start_fits.ensures (grind arith) c.get4-cells.result c.get4-slots.result c.get4-h.result c.get4-cells.ensures c.get4-slots.ensures c.get4-h.ensures _ (c.scan.ensures.entries, c.scan.ensures.fault) _ c.in-Ok.is _ _ _ c.load.ensures c.replay.ensures _ _ (c.fill.ensures.after (λ y e. e)) (c.fill-2.ensures.after (λ y e. e)) c.in_default.is
