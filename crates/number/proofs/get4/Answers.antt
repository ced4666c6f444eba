-- `number::get4` meets its contract. A number's four bytes, one after the other.
use native.Mathlib.Omega.{arith}
use mathlib.Core.Path.{refl}
use Rattle.number.proofs.Numbers.{four}
use Rattle.number.proofs.get4.Goals as goal

pub returns : goal.returns
returns c = omega (arith, c.from_le_bytes.ensures, four c.args.s.now c.args.at _ _ _ _ (omega arith) refl refl refl refl)
