-- `row::read_row` meets its contract. Each exit is a case of the definitions, by the tests that led there.
use native.Mathlib.Omega.{arith}
use Rattle.row.proofs.Reading.{of_fields, row_short, row_zero, row_other, row_outside, row_read}
use Rattle.row.proofs.read_row.Goals as goal
use Rattle.row.proofs.read_row.Goals.{then-number-eq0-via-then-number-eq0, then-number-eq0-via-else-number-eq0+then-get4-number}

pub returns-then-row-lt32 : goal.returns-then-row-lt32
returns-then-row-lt32 c = let e = row_short c.args.cells c.args.number c.args.row.now (omega arith) in record { entry = e.0; reason = e.1 }

pub returns-then-number-eq0 : goal.returns-then-number-eq0
returns-then-number-eq0 c =
    elim c.then-number-eq0.branch [
      | then-number-eq0-via-then-number-eq0 w ↦ let e = row_zero c.args.cells c.args.number c.args.row.now (omega arith) (omega arith) in record { entry = e.0; reason = e.1 }
      | then-number-eq0-via-else-number-eq0+then-get4-number w ↦
          let e = row_other c.args.cells c.args.number c.args.row.now (omega arith) (omega arith) (omega arith) in record { entry = e.0; reason = e.1 }
    ]

pub returns-then-from-cell : goal.returns-then-from-cell
returns-then-from-cell c =
    let e = row_outside c.args.cells c.args.number c.args.row.now (omega arith) (omega arith) (omega arith) (omega arith) _ c.unread.ensures (omega arith) in
    record { entry = e.0; reason = e.1 }

pub returns : goal.returns
returns c =
    let e = row_read c.args.cells c.args.number c.args.row.now (omega arith) (omega arith) (omega arith) (omega arith) (omega arith) _ _
    (of_fields _ _ _ _ _ _ _ _ _ _ _ c.of_kind.ensures (omega arith) (omega arith) (omega arith) (omega arith)) in
    record { entry = e.0; reason = e.1 }
