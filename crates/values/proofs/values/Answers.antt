-- `values::values` meets its contract: one law for each end of a start, which the walk and the replay decide as recovery start does.
use native.Mathlib.Omega.{arith}
use Rattle.recovery.proofs.Recovering.{head_fits}
use Rattle.values.proofs.Starting.{values_headless, values-cells, values-malformed, values-upto, values_read, values-done}
use Rattle.values.proofs.values.Goals as goal

pub returns-then-not-head_ok : goal.returns-then-not-head_ok
returns-then-not-head_ok c = values_headless _ _ c.head_ok.ensures (grind arith) _

pub get4-cells-requires : goal.get4-cells-requires
get4-cells-requires c = let h = head_fits _ _ c.head_ok.ensures (grind arith) in omega (arith, h.long)

pub get4-slots-requires : goal.get4-slots-requires
get4-slots-requires c = let h = head_fits _ _ c.head_ok.ensures (grind arith) in omega (arith, h.long)

pub get4-h-requires : goal.get4-h-requires
get4-h-requires c = let h = head_fits _ _ c.head_ok.ensures (grind arith) in omega (arith, h.long)

pub last_met-requires : goal.last_met-requires
last_met-requires c = (c.get4-h.ensures, grind arith)

pub returns-in_default : goal.returns-in_default
returns-in_default c = values-malformed _ _ c.head_ok.ensures (grind arith) _ _ _ c.get4-cells.ensures c.get4-slots.ensures c.get4-h.ensures _ c.last_met.ensures c.in_default.is _

pub load-requires : goal.load-requires
load-requires c =
    let h = head_fits _ _ c.head_ok.ensures (grind arith) in
    let l = values-cells _ _ c.head_ok.ensures (grind arith) _ c.requires in
    omega (arith, h.long, l, c.get4-slots.ensures)

pub replay-requires : goal.replay-requires
replay-requires c =
    let h = head_fits _ _ c.head_ok.ensures (grind arith) in
    let l = values-cells _ _ c.head_ok.ensures (grind arith) _ c.requires in
    let u = values-upto _ _ c.head_ok.ensures (grind arith) _ _ _ c.get4-cells.ensures c.get4-slots.ensures c.get4-h.ensures _ c.last_met.ensures _ c.in-Some.is (omega arith) in
    (record { some-slots = omega (arith, h.slots≥, c.get4-slots.ensures); few-slots = omega (arith, h.slots≤, c.get4-slots.ensures); room = omega (arith, h.long, c.get4-slots.ensures); numbered = omega arith }, (omega (arith, l, c.load.auto, c.get4-cells.ensures), u))

pub returns-in_default-replay : goal.returns-in_default-replay
returns-in_default-replay c =
    let h = c.head_ok.ensures in
    let l = values-cells _ _ h (grind arith) _ c.requires in
    absurd (values_read _ _ h (grind arith) _ _ _ c.get4-cells.ensures c.get4-slots.ensures c.get4-h.ensures _ c.last_met.ensures _ c.in-Some.is _ l _ _ _ c.load.ensures c.replay.ensures _ c.in_default-replay.is)

pub returns : goal.returns
returns c =
    let h = c.head_ok.ensures in
    let l = values-cells _ _ h (grind arith) _ c.requires in
    values-done _ _ h (grind arith) _ _ _ c.get4-cells.ensures c.get4-slots.ensures c.get4-h.ensures _ c.last_met.ensures _ c.in-Some.is _ l _ _ _ c.load.ensures c.replay.ensures c.in-Ok.is
