-- `counter_text::least` meets its contract. By whether the number has 32 bits.
use mathlib.Core.Path.{◌∙◌}
use Rattle.counter_text.proofs.Said.{least_is}
use Rattle.counter_text.proofs.least.Goals as goal

pub returns : goal.returns
returns c = c.unwrap_or.ensures ∙ least_is _ _ c.try_from.ensures
