-- `lines::nth_bytes` meets its contract. A line lies within the bytes.
use mathlib.Core.Path.{sym}
use native.Mathlib.Omega.{arith}
use Rattle.lines.proofs.Lined.{is_within}
use Rattle.lines.proofs.nth_bytes.Goals as goal

pub slice_bounds-result-count : goal.slice_bounds-result-count
slice_bounds-result-count c = let w = is_within _ c.args.k _ (sym c.in-Some.ensures) in omega (arith, w.ordered)

pub slice_bounds-result-start : goal.slice_bounds-result-start
slice_bounds-result-start c = let w = is_within _ c.args.k _ (sym c.in-Some.ensures) in omega (arith, w.ordered, w.ends)

pub slice_bounds-result-end : goal.slice_bounds-result-end
slice_bounds-result-end c = let w = is_within _ c.args.k _ (sym c.in-Some.ensures) in omega (arith, w.ordered, w.ends)
