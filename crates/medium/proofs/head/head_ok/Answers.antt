-- `head_ok` judges the head and the length: the filler is judged in numbers of 4, 8 and 8 bytes.
use native.Mathlib.Omega.{arith}
use Rattle.scope.specs.Keeper.{is_head_ok}
use Rattle.medium.proofs.Heads.{head_short, filler}
use Rattle.medium.proofs.head.head_ok.Goals as goal

pub returns-then-medium-lt32 : goal.returns-then-medium-lt32
returns-then-medium-lt32 c = head_short _ (omega arith)

pub returns-then-get8-eq0-2 : goal.returns-then-get8-eq0-2
unfolding is_head_ok
returns-then-get8-eq0-2 c = let f = filler c.args.medium.now (omega arith) in grind (arith, f)

pub returns-else-get8-eq0-2 : goal.returns-else-get8-eq0-2
unfolding is_head_ok
returns-else-get8-eq0-2 c = let f = filler c.args.medium.now (omega arith) in grind (arith, f)
