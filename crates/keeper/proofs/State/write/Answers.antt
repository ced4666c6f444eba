-- `keeper::State::write` meets its contract. Refused, or done: an entry appended and a cell assigned.
use Rattle.std.proofs.Common.{[], refl, sym, arith}
use Rattle.scope.specs.Keeper.{done}
use Rattle.scope.specs.Refusals.{Write}
use Rattle.keeper.proofs.Passed.{write_passed}
use Rattle.keeper.proofs.Transactions.{write_done}
use Rattle.keeper.proofs.Unless.{refused-leaves, done-tells}
use Rattle.keeper.proofs.State.write.Goals as goal

pub returns-in-Err : goal.returns-in-Err
returns-in-Err c = refused-leaves (Write _ _) _ [] _ _ _ _ _ done (λ k. refl) _ c.refused.ensures (c.in-Err.ensures _)

pub overflow_add-n : goal.overflow_add-n
overflow_add-n c =
    let a = c.args in
    let w = write_passed a.self.numbers a.self.phase [] a.current.now a.first.now a.last.now a.waiting.now a.cell 0 (sym (c.in_default.ensures 0).number) in
    omega (arith, w.0)

pub bounds-current-index : goal.bounds-current-index
bounds-current-index c =
    let a = c.args in
    let w = write_passed a.self.numbers a.self.phase [] a.current.now a.first.now a.last.now a.waiting.now a.cell 0 (sym (c.in_default.ensures 0).number) in
    omega (arith, w.0, w.1)

pub append-requires : goal.append-requires
append-requires c =
    let a = c.args in
    let w = write_passed a.self.numbers a.self.phase [] a.current.now a.first.now a.last.now a.waiting.now a.cell 0 (sym (c.in_default.ensures 0).number) in
    omega (arith, w.0, w.1)

pub assign-requires : goal.assign-requires
assign-requires c =
    let a = c.args in
    let w = write_passed a.self.numbers a.self.phase [] a.current.now a.first.now a.last.now a.waiting.now a.cell 0 (sym (c.in_default.ensures 0).number) in
    omega (arith, w.0, w.1)

pub returns : goal.returns
returns c =
    let s = c.args.self in (
      write_done s _ _ _ _ _ _ _ (λ v. (c.in_default.ensures v).number) _ _ _ _ _ _ _ refl c.index.ensures.0 refl c.append.ensures c.assign.ensures c.done.ensures,
      done-tells (Write _ _) s [] _ _ _ _ _ _ _ _ c.done.ensures (c.in_default.ensures _),
    )
