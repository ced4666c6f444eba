-- `keeper::State::roll_back` meets its contract. An entry appended, and the rows restored on the values alone.
use Rattle.std.proofs.Common.{refl}
use Rattle.keeper.proofs.Transactions.{roll_done}
use Rattle.keeper.proofs.State.roll_back.Goals as goal

pub returns : goal.returns
returns c = (roll_done c.args.self _ _ _ _ _ _ _ _ _ _ _ refl c.append.ensures c.rollback.ensures c.done.ensures, rw c.done.ensures refl)
