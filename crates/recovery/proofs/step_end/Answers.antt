-- `step_end` stores the head where an entry is left, and nothing else: one law for each way that it ends.
use native.Mathlib.Omega.{arith}
use Rattle.recovery.proofs.Recovering.{end_clean, end-head}
use Rattle.recovery.proofs.step_end.Goals as goal

pub returns-then-l-numbers : goal.returns-then-l-numbers
returns-then-l-numbers c = λ phase current. end_clean c.args.numbers phase _ current (omega arith)

pub returns : goal.returns
returns c = λ phase current. end-head c.args.numbers phase _ current (omega arith) _ c.store_head.ensures
