-- `number::get8` meets its contract. Two numbers of 4 bytes are one of 8.
use native.Mathlib.Omega.{arith}
use Rattle.number.proofs.Numbers.{eight}
use Rattle.number.proofs.get8.Goals as goal

pub returns : goal.returns
returns c = omega (arith, eight c.args.s.now c.args.at _ _ (omega arith) c.get4.ensures c.get4-2.ensures)
