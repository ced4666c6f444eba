-- `boundary::rows::keeper_read_row` meets its contract. By what the row reads as.
use mathlib.Core.Path.{◌∙◌}
use native.Mathlib.Omega.{arith}
use Rattle.boundary.proofs.RowLaws.{read_other, read_as, four_fields}
use Rattle.boundary.proofs.rows.keeper_read_row.Goals as goal

pub returns-then-fields-ne4 : goal.returns-then-fields-ne4
returns-then-fields-ne4 c = read_other _ _ _ (omega arith)

pub returns : goal.returns
returns c =
    read_as _ _ _ (omega arith) _ c.read_row.ensures.entry _ c.read_row.ensures.reason _ _ c.fields_of.ensures.kind (c.put_fields.ensures ∙ four_fields _ _ _ c.fields_of.ensures.fields)
