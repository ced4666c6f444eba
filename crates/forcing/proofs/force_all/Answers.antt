-- `forcing::force_all` meets its contract. The steps that remain, from here, leave what all leave from the start.
use mathlib.Core.Path.{◌∙◌}
use native.Mathlib.Omega.{arith}
use Rattle.forcing.proofs.Steps.{same-room, still_storing, fewer, forced_again, forced-end}
use Rattle.forcing.proofs.force_all.Goals as goal

pub loop-next-smaller : goal.loop-next-smaller
loop-next-smaller c =
    fewer _ _ _ _ _ c.force_step-next.ensures c.loop-next.invariant.0 (omega arith)

pub loop-next-preserved : goal.loop-next-preserved
loop-next-preserved c =
    let e = c.force_step-next.ensures in
    let i = c.loop-next.invariant in
    (still_storing _ _ _ _ _ e i.0, same-room _ _ _ _ _ e i.0 ∙ i.1, forced_again _ _ _ _ _ e i.0 _ i.2 (omega arith))

pub returns : goal.returns
returns c = forced-end _ _ _ _ c.loop-next.invariant.2 (omega arith)
