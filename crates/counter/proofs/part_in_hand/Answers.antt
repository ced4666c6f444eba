-- `counter::part_in_hand` meets its contract. By the best of the span and the best that lists the part.
use mathlib.Core.Path.{refl, ap, ◌∙◌}
use Rattle.std.specs.Prelude.{Ok}
use Rattle.counter.proofs.Spans.{handed_on, no_best, hand_refused, span_lent, as_handed, hand_that, hand_other}
use Rattle.counter.proofs.part_in_hand.Goals as goal

pub returns-in_err-table : goal.returns-in_err-table
returns-in_err-table c = handed_on c.from_residual.ensures.1 ∙ hand_refused _ _ _ _ c.in_err-table.ensures.refusal _

pub best_in-requires-clause-bytes : goal.best_in-requires-clause-bytes
best_in-requires-clause-bytes c = let t = c.in_ok-table.ensures in (span_lent _ _ _ t.refusal _ t.table).0

pub best_in-requires-clause-cells : goal.best_in-requires-clause-cells
best_in-requires-clause-cells c = let t = c.in_ok-table.ensures in (span_lent _ _ _ t.refusal _ t.table).1

pub returns-in_err-best : goal.returns-in_err-best
returns-in_err-best c =
    let t = c.in_ok-table.ensures in
    handed_on c.from_residual-in_err-best.ensures.1
    ∙ no_best _ _ _ c.in_err-best.ensures.value
    ∙ as_handed _ _ _ t.refusal _ t.table _ c.best_in.ensures _ _ refl

pub returns-then-part_number-part : goal.returns-then-part_number-part
returns-then-part_number-part c =
    let t = c.in_ok-table.ensures in
    hand_that _ _ _ t.refusal _ t.table _ c.best_in.ensures _ _ _ _ c.in_ok-best.ensures.ok_part c.part_number.ensures c.if-part_number-part.true

pub best_in-requires-2-clause-bytes : goal.best_in-requires-2-clause-bytes
best_in-requires-2-clause-bytes c = let t = c.in_ok-table.ensures in (span_lent _ _ _ t.refusal _ t.table).0

pub best_in-requires-2-clause-cells : goal.best_in-requires-2-clause-cells
best_in-requires-2-clause-cells c = let t = c.in_ok-table.ensures in (span_lent _ _ _ t.refusal _ t.table).1

pub returns : goal.returns
returns c =
    let t = c.in_ok-table.ensures in
    ap Ok c.against.ensures
    ∙ hand_other _ _ _ t.refusal _ t.table _ c.best_in.ensures _ _ _ _ c.in_ok-best.ensures.ok_part c.part_number.ensures c.if-part_number-part.false _ c.best_in-2.ensures
