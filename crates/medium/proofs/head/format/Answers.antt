-- `format` answers and leaves what the paper's format does: refused, nothing; else zeros with the head put over the first 32.
use native.Mathlib.Omega.{arith}
use Rattle.std.proofs.Common.{◌≡◌, ◌&&◌, false, true, length, eqb}
use Rattle.scope.specs.Keeper.{in_range, medium_length}
use Rattle.medium.proofs.Heads.{format_unfit, format_size, format_done}
use Rattle.medium.proofs.head.format.Goals as goal
use Rattle.medium.proofs.head.format.Goals.{then-not-in_range-via-then-not-in_range, then-not-in_range-via-else-not-in_range+then-medium-medium_length}

pub returns-then-not-in_range-clause-number : goal.returns-then-not-in_range-clause-number
returns-then-not-in_range-clause-number c =
    let h : (in_range c.args.cells c.args.slots && eqb (length c.args.medium.now) (medium_length c.args.cells c.args.slots)) ≡ false = grind arith in
    (format_unfit _ _ _ h).0

pub returns-then-not-in_range-clause-bytes : goal.returns-then-not-in_range-clause-bytes
returns-then-not-in_range-clause-bytes c =
    let h : (in_range c.args.cells c.args.slots && eqb (length c.args.medium.now) (medium_length c.args.cells c.args.slots)) ≡ false = grind arith in
    (format_unfit _ _ _ h).1

pub store_head-requires : goal.store_head-requires
store_head-requires c =
    let h : (in_range c.args.cells c.args.slots && eqb (length c.args.medium.now) (medium_length c.args.cells c.args.slots)) ≡ true = grind arith in
    let l = c.fill.ensures.len in
    omega (arith, format_size _ _ _ h)

pub returns-clause-number : goal.returns-clause-number
returns-clause-number c =
    let h : (in_range c.args.cells c.args.slots && eqb (length c.args.medium.now) (medium_length c.args.cells c.args.slots)) ≡ true = grind arith in
    (format_done _ _ _ h _ _ (c.fill.ensures.after (λ y e. e)) c.store_head.ensures).0

pub returns-clause-bytes : goal.returns-clause-bytes
returns-clause-bytes c =
    let h : (in_range c.args.cells c.args.slots && eqb (length c.args.medium.now) (medium_length c.args.cells c.args.slots)) ≡ true = grind arith in
    (format_done _ _ _ h _ _ (c.fill.ensures.after (λ y e. e)) c.store_head.ensures).1
