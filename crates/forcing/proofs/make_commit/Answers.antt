-- `forcing::make_commit` meets its contract. The row appended, and l and o moved on.
use mathlib.Core.Path.{refl}
use Rattle.forcing.proofs.Steps.{made_is}
use Rattle.forcing.proofs.make_commit.Goals as goal

pub returns : goal.returns
returns c = made_is _ _ _ _ refl c.append.ensures
