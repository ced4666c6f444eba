-- `try_table_view` is the table's part, or a refusal: an accepted medium has the length that its head says, so the part begins within it.
use native.Mathlib.Omega.{arith}
use mathlib.Core.Path.{◌≡◌}
use mathlib.Core.Bool.{true, false}
use Rattle.scope.specs.Keeper.{is_head_ok}
use Rattle.medium.proofs.Heads.{view_refused, view_done, view_fits, view_part}
use Rattle.medium.proofs.head.try_table_view.Goals as goal

pub returns-then-not-head_ok-clause-number : goal.returns-then-not-head_ok-clause-number
returns-then-not-head_ok-clause-number c = let h : is_head_ok c.args.medium.now ≡ false = grind arith in view_refused _ h

pub get4-requires : goal.get4-requires
get4-requires c = let h : is_head_ok c.args.medium.now ≡ true = grind arith in omega (arith, view_fits _ h)

pub slice_bounds-result-count : goal.slice_bounds-result-count
slice_bounds-result-count c = let h : is_head_ok c.args.medium.now ≡ true = grind arith in omega (arith, view_fits _ h)

pub slice_bounds-result-start : goal.slice_bounds-result-start
slice_bounds-result-start c = let h : is_head_ok c.args.medium.now ≡ true = grind arith in omega (arith, view_fits _ h)

pub returns-clause-number : goal.returns-clause-number
returns-clause-number c = let h : is_head_ok c.args.medium.now ≡ true = grind arith in view_done _ h

pub returns-clause-part : goal.returns-clause-part
returns-clause-part c = let h : is_head_ok c.args.medium.now ≡ true = grind arith in view_part _ h _ (omega arith)
