-- `row::write_row` meets its contract. Each exit is a case of the definition.
use native.Mathlib.Omega.{arith}
use Rattle.row.specs.Row.{entry}
use Rattle.row.proofs.Writing.{write_short, write_zero, write_entry}
use Rattle.row.proofs.write_row.Goals as goal
use Rattle.row.proofs.write_row.Goals.{then-row-lt32-via-then-row-lt32, then-row-lt32-via-else-row-lt32+then-number-eq0}

pub returns-then-row-lt32 : goal.returns-then-row-lt32
returns-then-row-lt32 c =
    elim c.then-row-lt32.branch [
      | then-row-lt32-via-then-row-lt32 w ↦ let e = write_short c.args.number (entry c.args.what) c.args.row.now (omega arith) in record { written = e.0; bytes = e.1 }
      | then-row-lt32-via-else-row-lt32+then-number-eq0 w ↦
          let e = write_zero c.args.number (entry c.args.what) c.args.row.now (omega arith) (omega arith) in record { written = e.0; bytes = e.1 }
    ]

pub returns : goal.returns
returns c =
    let e = write_entry c.args.number (entry c.args.what) c.args.row.now _ (omega arith) (omega arith) c.put_entry.ensures in
    record { written = e.0; bytes = e.1 }
