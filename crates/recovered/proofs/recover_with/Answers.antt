-- `recovered::recover_with` meets its contract. Start and steps in workspaces of zeros are those of the definition.
use Prim.Native.Nat.{ℕ}
use lib.ListN.{length, replicate, take}
use Rattle.std.proofs.lemmas.Result.{err_from_is_err_and}
use Rattle.recovered.proofs.Settled.{length_zeros, zeroed_fits, zeroed_part, recovers_on, recovers_refused}
use Rattle.recovered.proofs.recover_with.Goals as goal

pub slice_bounds-first-end : goal.slice_bounds-first-end
slice_bounds-first-end c = zeroed_fits _ _ _ c.requires

pub slice_bounds-recovery_start-end : goal.slice_bounds-recovery_start-end
slice_bounds-recovery_start-end c = length_zeros _ 1024 (zeroed_fits _ _ _ c.requires)

pub slice_bounds-last-end : goal.slice_bounds-last-end
slice_bounds-last-end c = zeroed_fits _ _ _ c.requires

pub slice_bounds-recovery_start-end-2 : goal.slice_bounds-recovery_start-end-2
slice_bounds-recovery_start-end-2 c = length_zeros _ 1024 (zeroed_fits _ _ _ c.requires)

pub returns-in_err-numbers : goal.returns-in_err-numbers
returns-in_err-numbers c =
    let a = c.args in
    let first = take (length a.current.now) (replicate {A = ℕ} 1024 0) in
    let z = zeroed_part a.medium.now a.current.now a.waiting.now c.requires in
    let p = err_from_is_err_and c.from_residual.result c.from_residual.ensures.1 in
    rw (p.1, p.2) (recovers_refused a.medium.now a.current.now a.waiting.now c.requires first first z z _ _ _ _ c.in_err-numbers.ensures)

pub returns : goal.returns
returns c =
    let a = c.args in
    let first = take (length a.current.now) (replicate {A = ℕ} 1024 0) in
    let z = zeroed_part a.medium.now a.current.now a.waiting.now c.requires in
    recovers_on a.medium.now a.current.now a.waiting.now c.requires first first z z _ _ _ _ _ _ c.in_ok-numbers.ensures c.settle.ensures
