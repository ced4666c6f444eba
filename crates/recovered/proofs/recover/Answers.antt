-- `recovered::recover` meets its contract. Parts of arrays of zeros are the workspaces that the head asks.
use Prim.Native.Nat.{◌*◌}
use mathlib.Core.Path.{ap}
use native.Mathlib.Omega.{arith}
use Rattle.recovered.proofs.Settled.{head_numbers_fit, length_zeros, zeroed}
use Rattle.recovered.proofs.recover.Goals as goal

pub overflow_mul-rows : goal.overflow_mul-rows
overflow_mul-rows c = let h = head_numbers_fit c.args.medium.now in omega (arith, c.head_number-rows.ensures)

pub slice_bounds-current-end : goal.slice_bounds-current-end
slice_bounds-current-end c = let h = head_numbers_fit c.args.medium.now in omega (arith, c.head_number-cells.ensures)

pub slice_bounds-recover_with-end : goal.slice_bounds-recover_with-end
slice_bounds-recover_with-end c = length_zeros _ 1024 (let h = head_numbers_fit c.args.medium.now in omega (arith, c.head_number-cells.ensures))

pub slice_bounds-waiting-end : goal.slice_bounds-waiting-end
slice_bounds-waiting-end c = let h = head_numbers_fit c.args.medium.now in omega (arith, c.head_number-rows.ensures)

pub slice_bounds-recover_with-end-2 : goal.slice_bounds-recover_with-end-2
slice_bounds-recover_with-end-2 c = length_zeros _ 32768 (let h = head_numbers_fit c.args.medium.now in omega (arith, c.head_number-rows.ensures))

pub recover_with-requires : goal.recover_with-requires
recover_with-requires c = zeroed c.args.medium.now c.head_number-cells.result (32 * c.head_number-rows.result) c.head_number-cells.ensures (ap (λ x. 32 * x) c.head_number-rows.ensures)
