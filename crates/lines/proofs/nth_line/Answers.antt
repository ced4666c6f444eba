-- `lines::nth_line` meets its contract. Invariant: the line of the number that is left, from here, is the one asked for.
use native.Mathlib.Omega.{arith}
use mathlib.Core.Path.{sym, ap, ◌∙◌}
use Prim.Native.Nat.{◌+◌, ◌-◌}
use mathlib.Core.Path.{◌≡◌}
use Rattle.lines.specs.Lines.{nth_line, nth_from}
use Rattle.lines.proofs.Lined.{nth_none, nth_next, nth_last}
use Rattle.lines.proofs.nth_line.Goals as goal

pub loop-init : goal.loop-init
unfolding nth_line
loop-init c = let z : c.args.k ≡ c.args.k - 0 = omega arith in ap (λ j. nth_from j 0 c.args.s.now) z

pub returns-in_err-at : goal.returns-in_err-at
returns-in_err-at c =
    let l = c.loop in
    c.from_residual.ensures ∙ nth_none _ (c.args.k - l.counter) l.at (omega arith) (sym c.in_err-at.ensures) ∙ sym l.invariant

pub loop-preserved : goal.loop-preserved
loop-preserved c =
    let l = c.loop in
    let z : c.args.k - l.counter - 1 ≡ c.args.k - (l.counter + 1) = omega arith in
    l.invariant ∙ nth_next _ (c.args.k - l.counter) l.at _ (omega arith) (sym c.in_ok-at.ensures)
    ∙ ap (λ j. nth_from j c.in_ok-at.field-0.next c.args.s.now) z

pub returns : goal.returns
returns c =
    let l = c.loop in
    c.line_at-2.ensures ∙ nth_last _ (c.args.k - l.counter) l.at (omega arith) ∙ sym l.invariant
