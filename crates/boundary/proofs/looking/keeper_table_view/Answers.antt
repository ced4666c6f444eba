-- `boundary::looking::keeper_table_view` meets its contract. Each exit is a case of the papers' call; the part from the offset on is its part.
use mathlib.Core.Path.{◌∙◌}
use native.Mathlib.Omega.{arith}
use Rattle.boundary.proofs.Places.{viewed_refused, viewable, viewed}
use Rattle.boundary.proofs.looking.keeper_table_view.Goals as goal

pub returns-in-Err : goal.returns-in-Err
returns-in-Err c = viewed_refused _ c.in-Err.why _ c.number.ensures c.in-Err.ensures.number

pub get4-requires : goal.get4-requires
get4-requires c = omega (arith, viewable _ c.in_default.ensures.number)

pub returns : goal.returns
returns c = viewed _ c.in_default.ensures.number _ (c.index-slots.ensures.0 ∙ c.get4.ensures)
