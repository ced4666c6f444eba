-- `number::put8` meets its contract. Two stores side by side are one.
use Rattle.number.proofs.Numbers.{eight_put}
use Rattle.number.proofs.put8.Goals as goal

pub returns : goal.returns
returns c = search eight_put
