-- `months::Month::add_medium` meets its contract: a part of an array of zeros is the workspace that the head asks for; then one law for each end of a start.
use Prim.Native.Nat.{◌*◌}
use mathlib.Core.Path.{refl}
use native.Mathlib.Omega.{arith}
use Rattle.recovered.specs.Recovered.{head_number}
use Rattle.recovered.proofs.Settled.{head_numbers_fit, length_zeros, zeroed}
use Rattle.months.proofs.Adding.{more_saturating, medium-refused, medium-counted}
use Rattle.months.proofs.Month.add_medium.Goals as goal

pub slice_bounds-table-end : goal.slice_bounds-table-end
slice_bounds-table-end c = let h = head_numbers_fit c.args.medium.now in omega (arith, c.head_number.ensures)

pub slice_bounds-current-end : goal.slice_bounds-current-end
slice_bounds-current-end c = length_zeros _ 1024 (let h = head_numbers_fit c.args.medium.now in omega (arith, c.head_number.ensures))

pub values-requires : goal.values-requires
values-requires c =
    let m = c.args.medium.now in
    let n = c.head_number in
    (zeroed m n.result (32 * head_number 4 m) n.ensures refl).current-zero

pub returns-in-Ok : goal.returns-in-Ok
returns-in-Ok c =
    let stores = more_saturating _ _ c.saturating_add-self.ensures (omega arith) in
    medium-counted _ _ _ _ c.values.ensures _ stores c.in-Ok.is _ c.add_cells.ensures

pub returns-in-Err : goal.returns-in-Err
returns-in-Err c =
    let stores = more_saturating _ _ c.saturating_add-self.ensures (omega arith) in
    let refused = more_saturating _ _ c.saturating_add-self-in-Err.ensures (omega arith) in
    medium-refused _ _ _ _ c.values.ensures _ stores _ c.in-Err.is _ refused
