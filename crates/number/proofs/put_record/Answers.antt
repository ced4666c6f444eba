-- `number::put_record` meets its contract. Six stores side by side are one.
use native.Mathlib.Omega.{arith}
use Rattle.number.proofs.Numbers.{joined}
use Rattle.number.proofs.put_record.Goals as goal

pub returns : goal.returns
returns c =
    joined _ _ _ _ _ _ _ _ _ _ _ _ _ _ (omega arith) c.put4.ensures c.put4-2.ensures c.put4-3.ensures
    c.put4-4.ensures c.put8.ensures c.put8-2.ensures
