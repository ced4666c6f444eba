-- What crosses the boundary: the state as seven numbers, and what a call hands back, by the papers' definition of the call.
use Rattle.std.specs.Prelude.{ℕ, Bool, ◌&&◌, ◌≡◌, List, [], ◌∷◌, eqb, leb, length, get_or}
use Rattle.std.proofs.Math.Option.{Option, none, some}
use Rattle.scope.specs.Bytes.{pick}
use Rattle.scope.specs.Keeper.{Phase, idle, run, recovering, State, Keeper, Answer, Outcome, done, refused, cell, head, clean, stored, part, no_state, refusal_of}
use Rattle.scope.specs.Row.{Fault, faultless, fault_reason, fault_entry}
use Rattle.scope.specs.Refusals.{Call, RecoveryStart, told}
use Rattle.scope.specs.Calls.{act}

abbrev pub phase_no : Phase → ℕ
phase_no idle = 0
phase_no run = 1
phase_no recovering = 2

-- a state's numbers: N, C, h, f, l, o and the phase
unfoldable pub numbers_of : State → List ℕ
numbers_of s = s.cells ∷ s.slots ∷ s.h ∷ s.f ∷ s.l ∷ s.o ∷ phase_no s.phase ∷ []

-- whether a slice holds a state: seven numbers, the last a phase's
unfoldable pub is_held_state : List ℕ → Bool
is_held_state s = eqb (length s) 7 && leb (get_or s 6 0) 2

unfoldable pub phase_in : ℕ → Phase
phase_in n = pick (eqb n 0) idle (pick (eqb n 1) run recovering)

unfoldable pub seven : List ℕ → State
seven s =
    record {
      cells = get_or s 0 0;
      slots = get_or s 1 0;
      h = get_or s 2 0;
      f = get_or s 3 0;
      l = get_or s 4 0;
      o = get_or s 5 0;
      phase = phase_in (get_or s 6 0);
    }

-- the state in a slice, if it holds one
unfoldable pub state_held : List ℕ → Option State
state_held s = pick (is_held_state s) (some (seven s)) none

-- the state that a call is handed in a slice; a slice that holds none stands for the state of zeros, which is not sound
unfoldable pub state_in : List ℕ → State
state_in s = pick (is_held_state s) (seven s) no_state

-- the slice after a call that leaves a state; a slice that holds none stays as it is
unfoldable pub state_after : List ℕ → State → List ℕ
state_after s next = pick (is_held_state s) (numbers_of next) s

-- what a host has after a call: the refusal number, the value and every slice that it lent (one that it did not lend is empty)
pub record Result : Type 0 where
  pub number : ℕ
  pub value : ℕ
  pub state : List ℕ
  pub medium : List ℕ
  pub current : List ℕ
  pub first : List ℕ
  pub last : List ℕ
  pub waiting : List ℕ

unfoldable pub handed_over : ℕ → ℕ → List ℕ → List ℕ → List ℕ → List ℕ → List ℕ → List ℕ → Result
handed_over number value state medium current first last waiting =
    record { number = number; value = value; state = state; medium = medium; current = current; first = first; last = last; waiting = waiting }

-- the value of an answer: of calls that have none, of a recovery step, of a write-back
abbrev pub no_value : Answer → ℕ
no_value a = 0

abbrev pub step_value : Answer → ℕ
step_value (cell c) = c
step_value head = 4294967296
step_value clean = 4294967297
step_value stored = 0
step_value (done v) = 0
step_value (refused n) = 0
step_value (part b) = 0

abbrev pub back_value : Answer → ℕ
back_value stored = 1
back_value clean = 0
back_value head = 0
back_value (cell c) = 0
back_value (done v) = 0
back_value (refused n) = 0
back_value (part b) = 0

-- the keeper that a call is lent over the boundary
unfoldable pub lent_over : List ℕ → List ℕ → List ℕ → List ℕ → List ℕ → List ℕ → Keeper
lent_over state medium current first last waiting =
    record { medium = medium; current = current; first = first; last = last; waiting = waiting; state = state_in state }

-- what an outcome hands back, its state as these numbers
unfoldable pub handed_back : (Answer → ℕ) → List ℕ → Outcome → Result
handed_back value state o =
    let k = o.keeper in
    handed_over (refusal_of o.answer) (value o.answer) state k.medium k.current k.first k.last k.waiting

-- A CALL OVER THE BOUNDARY: the papers' call on the state in the slice, and its state back in the slice
unfoldable pub over : (Answer → ℕ) → Call → List ℕ → List ℕ → List ℕ → List ℕ → List ℕ → List ℕ → Result
over value a state medium current first last waiting =
    let o = act a (lent_over state medium current first last waiting) in
    handed_back value (state_after state o.keeper.state) o

-- Recovery start, over the boundary, only writes a state: a slice of another length than seven is refused with 1, and nothing is written.
unfoldable pub start_over : List ℕ → List ℕ → List ℕ → List ℕ → List ℕ → List ℕ → Result
start_over state medium current first last waiting =
    let o = act RecoveryStart (record { medium = medium; current = current; first = first; last = last; waiting = waiting; state = no_state }) in
    pick (eqb (length state) 7) (handed_back no_value (numbers_of o.keeper.state) o) (handed_over 1 0 state medium current first last waiting)

-- what is told of rows, as a host has it after a call: the reason's number, 0 for none, and the entry's
abbrev pub Tells : Fault → ℕ → ℕ → Type 0
Tells w reason entry = (reason ≡ fault_reason w) × (entry ≡ fault_entry w)

-- what recovery start tells
unfoldable pub start_told : List ℕ → List ℕ → List ℕ → List ℕ → List ℕ → List ℕ → Fault
start_told state medium current first last waiting =
    pick (eqb (length state) 7)
    (told RecoveryStart (record { medium = medium; current = current; first = first; last = last; waiting = waiting; state = no_state }))
    faultless
