-- `recovered::head_number` meets its contract. By the test of the head.
use Rattle.std.proofs.Common.{arith}
use Rattle.recovery.proofs.Recovering.{head_fits}
use Rattle.recovered.specs.Recovered.{head_number}
use Rattle.recovered.proofs.head_number.Goals as goal

pub returns-then-not-head_ok : goal.returns-then-not-head_ok
unfolding head_number
returns-then-not-head_ok c = grind arith

pub get4-requires : goal.get4-requires
get4-requires c = let f = head_fits _ _ c.head_ok.ensures (grind arith) in omega arith

pub returns : goal.returns
unfolding head_number
returns c = grind arith
