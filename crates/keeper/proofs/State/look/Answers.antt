-- A look that is refused has no part.
use Rattle.keeper.proofs.LookLaws.{no_part}
use Rattle.keeper.proofs.State.look.Goals as goal

pub returns-in_default : goal.returns-in_default
returns-in_default c = no_part c.args.self _ _ _ _ c.in_default.ensures.number
