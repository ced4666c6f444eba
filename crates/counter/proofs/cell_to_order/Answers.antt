-- `counter::cell_to_order` meets its contract. The best of the span in the table view is the best in the table.
use mathlib.Core.Path.{◌∙◌}
use Rattle.counter.proofs.Spans.{handed_on, order_refused, span_lent, as_ordered}
use Rattle.counter.proofs.cell_to_order.Goals as goal

pub returns-in_err-table : goal.returns-in_err-table
returns-in_err-table c = handed_on c.from_residual.ensures.1 ∙ order_refused _ _ _ _ c.in_err-table.ensures.refusal

pub best_in-requires-clause-bytes : goal.best_in-requires-clause-bytes
best_in-requires-clause-bytes c = let t = c.in_ok-table.ensures in (span_lent _ _ _ t.refusal _ t.table).0

pub best_in-requires-clause-cells : goal.best_in-requires-clause-cells
best_in-requires-clause-cells c = let t = c.in_ok-table.ensures in (span_lent _ _ _ t.refusal _ t.table).1

pub returns : goal.returns
returns c = let t = c.in_ok-table.ensures in c.ok_or.ensures.value ∙ as_ordered _ _ _ t.refusal _ t.table _ c.best_in.ensures
