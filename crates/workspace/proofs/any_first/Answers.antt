-- `workspace::any_first` meets its contract. What was found and the cells that remain decide what all decide.
use native.Mathlib.Omega.{arith}
use Rattle.workspace.proofs.Restoring.{first_found, first_above, first-zero, first-end}
use Rattle.workspace.proofs.any_first.Goals as goal
use Rattle.workspace.proofs.any_first.Goals.{then-mark-gt0+then-mark-p, else-mark-gt0, else-mark-gt0-via-then-mark-gt0+else-mark-p, else-mark-gt0-via-else-mark-gt0}

pub loop-mark-preserved : goal.loop-mark-preserved
loop-mark-preserved c =
    let l = c.loop-mark in
    elim c.if-mark-gt0.branch [
      | then-mark-gt0+then-mark-p w ↦ first_found _ _ _ l.found l.mark-index l.invariant (omega arith) c.if-mark-gt0.found (omega arith) (omega arith) w.found-is
      | else-mark-gt0 w ↦
          elim w.else-mark-gt0.branch [
            | else-mark-gt0-via-then-mark-gt0+else-mark-p v ↦ first_above _ _ _ l.found l.mark-index l.invariant (omega arith) c.if-mark-gt0.found (omega arith) (omega arith) w.found-is
            | else-mark-gt0-via-else-mark-gt0 v ↦ first-zero _ _ _ l.found l.mark-index l.invariant (omega arith) c.if-mark-gt0.found (omega arith) w.found-is
          ]
    ]

pub returns : goal.returns
returns c = first-end c.args.p c.args.first.now _ c.loop-mark.found c.loop-mark.mark-index c.loop-mark.invariant (omega arith)
