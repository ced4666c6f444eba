-- `workspace::assign` meets its contract. Three stores at one index.
use Rattle.workspace.proofs.Restoring.{assign_is}
use Rattle.workspace.proofs.assign.Goals as goal

pub returns : goal.returns
returns c = assign_is _ _ _ _ _ _ _ _ c.index-at.ensures.0 c.first_mark.ensures
