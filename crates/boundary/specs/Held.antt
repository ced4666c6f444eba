-- What the code's answer of reading a state means, and what a slice has of a state before the numbers that a call changed are put.
use Rattle.std.specs.Prelude.{ℕ, ◌≡◌, true, List, leb, Some, None}
use Rattle.std.specs.declared.option.Option as code_option
use Rattle.std.proofs.Math.Option.{Option, none, some}
use Rattle.scope.specs.Bytes.{pick}
use Rattle.scope.specs.Keeper.{Phase, State, made_to, dropped_to}
use Rattle.state.specs.State.{phase_of, state_of}
use Rattle.state.specs.declared.Phase as phases
use Rattle.keeper.specs.declared.State as code
use Rattle.boundary.specs.Boundary.{phase_in, is_held_state, seven}

abbrev pub phase_held : code_option.Option phases.Phase → Option Phase
phase_held (Some p) = some (phase_of p)
phase_held None = none

-- the phase that a number stands for, if it is one's
unfoldable pub phase_numbered : ℕ → Option Phase
phase_numbered n = pick (leb n 2) (some (phase_in n)) none

abbrev pub held_in : code_option.Option code.State → Option State
held_in (Some s) = some (state_of s.numbers s.phase)
held_in None = none

-- a state with those numbers of another that a call changes: one that makes an entry, one that stores, a commit, which does both, and a cut
abbrev pub made : State → State → State
made t s = made_to t.l t.o t.phase s

abbrev pub stored : State → State → State
stored t s = record { cells = s.cells; slots = s.slots; h = s.h; f = t.f; l = s.l; o = s.o; phase = s.phase }

abbrev pub committed : State → State → State
committed t s = made t (stored t s)

abbrev pub dropped : State → State → State
dropped t s = dropped_to t.h s.phase s

-- a slice that holds a state, from which another differs in those numbers alone
pub record HasRest (changed : State → State → State) (s : List ℕ) (t : State) : Type 0 where
  pub is_state : is_held_state s ≡ true
  pub rest : t ≡ changed t (seven s)
