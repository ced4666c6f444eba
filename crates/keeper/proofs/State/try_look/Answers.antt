-- `try_look` is the papers' part or the refusal: one law for each way that it ends; a look that isn't refused has its entry's row in both buffers.
use Rattle.std.proofs.Common.{arith}
use Rattle.keeper.proofs.LookLaws.{number_is, refused_is, looking, medium-part, waiting-part}
use Rattle.keeper.proofs.State.try_look.Goals as goal

pub returns-in_err-look-clause-number : goal.returns-in_err-look-clause-number
returns-in_err-look-clause-number c = refused_is c.args.self _ _ _ _ _ c.from_residual.ensures.1 c.in_err-look.ensures.number

pub row_at-row-requires : goal.row_at-row-requires
row_at-row-requires c = let l = looking c.args.self _ _ _ c.in_ok-look.ensures.number in (l.some-slots, l.numbered)

pub slice_bounds-result-end : goal.slice_bounds-result-end
slice_bounds-result-end c = let l = looking c.args.self _ _ _ c.in_ok-look.ensures.number in omega arith

pub returns-then-n-numbers-clause-number : goal.returns-then-n-numbers-clause-number
returns-then-n-numbers-clause-number c = number_is c.args.self _ _ _ 0 c.in_ok-look.ensures.number

pub returns-then-n-numbers-clause-part : goal.returns-then-n-numbers-clause-part
returns-then-n-numbers-clause-part c = medium-part c.args.self _ _ _ c.in_ok-look.ensures.number _ c.row_at-row.ensures.0 (omega arith)

pub slice_bounds-result-end-2 : goal.slice_bounds-result-end-2
slice_bounds-result-end-2 c = let l = looking c.args.self _ _ _ c.in_ok-look.ensures.number in omega arith

pub returns-clause-number : goal.returns-clause-number
returns-clause-number c = number_is c.args.self _ _ _ 0 c.in_ok-look.ensures.number

pub returns-clause-part : goal.returns-clause-part
returns-clause-part c = waiting-part c.args.self _ _ _ c.in_ok-look.ensures.number _ c.row_at-row.ensures.0 (omega arith)
