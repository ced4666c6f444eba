-- `why_text::cell_why` meets its contract: one law for each end of a start. The walk meets the stored journal.
use mathlib.Core.Path.{refl, ap, ◌∙◌}
use Rattle.text.specs.Text.{line, refused_key}
use Rattle.why_text.proofs.Asked.{cell_refused, cell_done}
use Rattle.why_text.proofs.cell_why.Goals as goal

pub returns-in-Ok : goal.returns-in-Ok
returns-in-Ok c = c.five.ensures ∙ cell_done _ _ _ _ c.values.ensures c.in-Ok.is _ _ _ c.index.ensures.0 refl c.decide.ensures

pub returns-in-Err : goal.returns-in-Err
returns-in-Err c = c.refused.ensures ∙ ap (line refused_key) c.number.ensures ∙ cell_refused _ _ _ _ c.values.ensures _ c.in-Err.is
