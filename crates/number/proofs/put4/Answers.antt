-- `number::put4` meets its contract. Four stores in a row are one store of the number's bytes.
use native.Mathlib.Omega.{arith}
use mathlib.Core.Path.{ap}
use lib.ListN.{get_or}
use Rattle.number.proofs.Numbers.{four_put}
use Rattle.number.proofs.put4.Goals as goal

pub returns : goal.returns
returns c =
    let bytes = c.to_le_bytes.ensures in
    four_put _ _ c.args.x _ _ _ _ (omega arith) (ap (λ l. get_or l 0 0) bytes) (ap (λ l. get_or l 1 0) bytes) (ap (λ l. get_or l 2 0) bytes) (ap (λ l. get_or l 3 0) bytes)
