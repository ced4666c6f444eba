-- `counter::table_for` meets its contract. The table view of a head in rule holds N cells.
use native.Mathlib.Omega.{arith}
use mathlib.Core.Path.{ap, ◌∙◌}
use Rattle.std.specs.Prelude.{Ok}
use Rattle.std.specs.Result.{result_and}
use Rattle.counter.proofs.Spans.{handed_on, refused_view, refused_span, span_accepted}
use Rattle.counter.proofs.table_for.Goals as goal

pub returns-in_err-table-clause-refusal : goal.returns-in_err-table-clause-refusal
returns-in_err-table-clause-refusal c = ap (λ r. result_and r (Ok tt)) (handed_on c.from_residual.ensures.1) ∙ refused_view _ _ _ _ c.in_err-table.ensures.number

pub returns-then-table-end-clause-refusal : goal.returns-then-table-end-clause-refusal
returns-then-table-end-clause-refusal c = refused_span _ _ _ c.in_ok-table.ensures.number _ c.in_ok-table.ensures.part (omega arith)

pub returns-clause-refusal : goal.returns-clause-refusal
returns-clause-refusal c = span_accepted _ _ _ c.in_ok-table.ensures.number _ c.in_ok-table.ensures.part (omega arith)
