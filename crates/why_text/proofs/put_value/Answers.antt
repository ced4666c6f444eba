-- `why_text::put_value` meets its contract: the key and three numbers with the byte after each.
use native.Mathlib.Omega.{arith}
use Rattle.why_text.proofs.Saying.{value_written}
use Rattle.why_text.proofs.put_value.Goals as goal

pub returns : goal.returns
returns c = value_written c.args.value _ (λ z. omega arith) c.put_bytes.ensures c.put_decimal.ensures c.put_decimal-2.ensures c.put_decimal-3.ensures
