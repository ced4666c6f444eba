-- `walker::counted` meets its contract: one case law for each way that it ends.
use mathlib.Core.Path.{◌∙◌}
use mathlib.Core.Logic.{inl, inr}
use native.Mathlib.Omega.{arith}
use borrow.Author.Tests.{le-ltb, lt-leb}
use Rattle.walker.proofs.Walking.{counts-dropped, counts-last, counts-rest}
use Rattle.walker.proofs.counted.Goals as goal
use Rattle.walker.proofs.counted.Goals.{then-h-n, else-h-n}

pub returns-then-n-lt4294967295 : goal.returns-then-n-lt4294967295
returns-then-n-lt4294967295 c = counts-rest _ _ _ c.if-n-lt4294967295.true.0 c.if-n-lt4294967295.true.1

pub returns-else-n-lt4294967295 : goal.returns-else-n-lt4294967295
returns-else-n-lt4294967295 c =
    elim c.if-h-n.branch [
      | then-h-n w ↦
          elim c.if-n-lt4294967295.either [
            | inl p ↦ w.t-5-is ∙ le-ltb _ _ p.1 ∙ counts-last _ _ _ p.0 p.1
            | inr q ↦ absurd (omega arith)
          ]
      | else-h-n w ↦ w.t-5-is ∙ lt-leb _ _ (omega arith) ∙ counts-dropped _ _ _ (omega arith)
    ]
