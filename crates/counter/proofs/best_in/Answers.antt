-- `counter::best_in` meets its contract. Invariant: the best of the span that remains, after the best so far, is the best of the span.
use native.Mathlib.Omega.{arith}
use mathlib.Core.Path.{refl, sym, ◌∙◌}
use Rattle.counter.proofs.Spans.{cell_passed, cell-counted, best_start, best_again, best_end}
use Rattle.counter.proofs.best_in.Goals as goal
use Rattle.counter.proofs.best_in.Goals.{then-counts, else-counts}

pub loop-cell-init : goal.loop-cell-init
loop-cell-init c = best_start _ _ _ _ _ _ refl refl

pub loop-cell-preserved : goal.loop-cell-preserved
loop-cell-preserved c =
    let l = c.loop-cell in
    elim c.if-counts.branch [
      | then-counts w ↦ l.invariant ∙ best_again _ _ _ l.cell l.best _ _ _ (omega arith) (omega arith) c.get8-value.ensures (w.best-is ∙ w.better.ensures ∙ cell-counted _ _ _ _ _ c.counts.ensures w.if-counts.true)
      | else-counts w ↦ l.invariant ∙ best_again _ _ _ l.cell l.best _ _ _ (omega arith) (omega arith) c.get8-value.ensures (w.best-is ∙ cell_passed _ _ _ _ _ c.counts.ensures w.if-counts.false)
    ]

pub returns : goal.returns
returns c =
    let l = c.loop-cell in
    best_end _ _ _ l.cell l.best (omega arith) ∙ sym l.invariant
