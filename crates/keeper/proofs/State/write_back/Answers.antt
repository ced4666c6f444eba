-- `keeper::State::write_back` meets its contract. Refused, clean, or one cell stored.
use Rattle.std.proofs.Common.{[], refl, sym, arith}
use Rattle.scope.specs.Refusals.{WriteBack}
use Rattle.keeper.specs.Answers.{written_back}
use Rattle.keeper.proofs.Passed.{back_passed, cell_room}
use Rattle.keeper.proofs.Stores.{back_clean, back_stored}
use Rattle.keeper.proofs.Unless.{refused-leaves, done-tells}
use Rattle.keeper.proofs.State.write_back.Goals as goal

pub returns-in-Err : goal.returns-in-Err
returns-in-Err c = refused-leaves (WriteBack _) _ _ _ _ _ [] _ written_back (λ k. refl) _ c.refused.ensures c.in-Err.ensures

pub bounds-first-at : goal.bounds-first-at
bounds-first-at c =
    let a = c.args in
    let w = back_passed a.self.numbers a.self.phase a.medium.now a.current.now a.first.now a.last.now [] a.cell (sym c.in_default.ensures.number) in
    omega (arith, w.1, w.2, w.3)

pub returns-then-first-at-eq0 : goal.returns-then-first-at-eq0
returns-then-first-at-eq0 c =
    let s = c.args.self in (
      back_clean s _ _ _ _ _ _ c.in_default.ensures.number _ c.index-at.ensures.0 (omega arith) c.done.ensures,
      done-tells (WriteBack _) s _ _ _ _ [] _ _ _ _ c.done.ensures c.in_default.ensures,
    )

pub bounds-current-at : goal.bounds-current-at
bounds-current-at c =
    let a = c.args in
    let w = back_passed a.self.numbers a.self.phase a.medium.now a.current.now a.first.now a.last.now [] a.cell (sym c.in_default.ensures.number) in
    omega (arith, w.1, w.2, w.3)

pub store_cell-requires : goal.store_cell-requires
store_cell-requires c =
    let a = c.args in
    let w = back_passed a.self.numbers a.self.phase a.medium.now a.current.now a.first.now a.last.now [] a.cell (sym c.in_default.ensures.number) in
    cell_room _ _ _ _ w.0 w.3

pub returns : goal.returns
returns c =
    let s = c.args.self in (
      back_stored s _ _ _ _ _ _ c.in_default.ensures.number _ _ c.index-at.ensures.0 (omega arith) c.store_cell.ensures c.done-2.ensures,
      done-tells (WriteBack _) s _ _ _ _ [] _ _ _ _ c.done-2.ensures c.in_default.ensures,
    )
