-- `forcing::force_step` meets its contract. One row stored, and f moved on.
use mathlib.Core.Path.{refl}
use Rattle.forcing.proofs.Steps.{stored_is}
use Rattle.forcing.proofs.force_step.Goals as goal

pub returns : goal.returns
returns c = stored_is _ _ _ _ _ refl c.store_row.ensures
