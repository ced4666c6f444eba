-- `boundary::numbers::put_made` meets its contract. Three stores beside the four numbers that stand there.
use lib.ListN.{set, length-set}
use mathlib.Core.List.{List}
use mathlib.Core.Path.{refl, ap, ◌∙◌}
use Prim.Native.Nat.{ℕ}
use native.Mathlib.Omega.{arith}
use Rattle.scope.specs.Keeper.{made_to}
use Rattle.state.specs.State.{phase_of, state_of}
use Rattle.boundary.proofs.SevenNumbers.{is_long, put_changed}
use Rattle.boundary.specs.Boundary.{phase_no, numbers_of, seven}
use Rattle.boundary.specs.Held.{made}
use Rattle.boundary.proofs.numbers.put_made.Goals as goal

pub bounds-s-4 : goal.bounds-s-4
bounds-s-4 c = omega (arith, is_long _ c.requires.is_state)

pub bounds-s-5 : goal.bounds-s-5
bounds-s-5 c = simp length-set (omega (arith, is_long _ c.requires.is_state))

pub bounds-s-6 : goal.bounds-s-6
bounds-s-6 c = simp length-set (omega (arith, is_long _ c.requires.is_state))

pub returns : goal.returns
unfolding numbers_of state_of seven made_to
returns c =
    let n = c.args.state.numbers in
    let put : List ℕ → ℕ → List ℕ = λ x p. set (set (set x 4 n.l) 5 n.o) 6 p in
    let p = phase_no (phase_of c.args.state.phase) in
    ap (put c.args.s.now) c.phase_number.ensures ∙ put_changed made (λ x. put x p) c.args.s.now _ c.requires refl
