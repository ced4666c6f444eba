-- What the recovery of a medium to its end answers and leaves: a start in workspaces of zeros, then the steps, by the papers' calls.
use Rattle.std.specs.Prelude.{ℕ, zero, suc, ◌+◌, ◌*◌, ◌≡◌, Bool, true, false, List, replicate, Result, Ok, Err}
use Rattle.scope.specs.Bytes.{pick, number_at}
use Rattle.scope.specs.Keeper.{State, no_state, Keeper, Answer, Outcome, done, refused, cell, head, clean, stored, part, is_head_ok}
use Rattle.scope.specs.Row.{Fault}
use Rattle.scope.specs.Refusals.{RecoveryStart, RecoveryStep, told}
use Rattle.scope.specs.Calls.{act}
use Rattle.answer.specs.Answer.{number_of, told_in}
use Rattle.answer.specs.declared.Refusal.{Refusal}
use Rattle.state.specs.State.{state_of}
use Rattle.state.specs.Lent.{stateless}
use Rattle.recovered.specs.declared.Recovered.{Recovered}

-- a cell was stored
abbrev pub is_cell : Answer → Bool
is_cell (done v) = false
is_cell (refused n) = false
is_cell (cell c) = true
is_cell head = false
is_cell clean = false
is_cell stored = false
is_cell (part b) = false

-- recovery steps while a cell is stored, at most so many
unfoldable pub steps : ℕ → Keeper → Keeper
steps zero k = k
steps (suc left) k = pick (is_cell (act RecoveryStep k).answer) (steps left (act RecoveryStep k).keeper) (act RecoveryStep k).keeper

-- a medium without a state, with workspaces of zeros as the head says
abbrev pub in_zeros : List ℕ → Keeper
in_zeros m =
    let n = number_at 4 0 m in
    stateless m (replicate n 0) (replicate n 0) (replicate n 0) (replicate (32 * number_at 4 4 m) 0)

-- recovery start there
unfoldable pub started : List ℕ → Outcome
started m = act RecoveryStart (in_zeros m)

-- what that start tells of a row
unfoldable pub start_told : List ℕ → Fault
start_told m = told RecoveryStart (in_zeros m)

-- N cells differ at most, and one step more stores the head or nothing
unfoldable pub recovered : List ℕ → Keeper
recovered m = steps (number_at 4 0 m + 1) (started m).keeper

-- N or C, as the head has it at 0 or 4, where it is in rule
unfoldable pub head_number : ℕ → List ℕ → ℕ
head_number at m = pick (is_head_ok m) (number_at 4 at m) 0

-- current values and waiting rows of zeros, as the head says
pub record Zeroed (m current waiting : List ℕ) : Type 0 where
  pub current-zero : current ≡ replicate (head_number 0 m) 0
  pub waiting-zero : waiting ≡ replicate (32 * head_number 4 m) 0

-- the start's answer, and the state after the steps: a refused start leaves that of zeros
abbrev pub answer_of : Result Recovered Refusal → Answer
answer_of (Ok r) = done 0
answer_of (Err x) = refused (number_of x)

abbrev pub state_after : Result Recovered Refusal → State
state_after (Ok r) = state_of r.numbers r.phase
state_after (Err x) = no_state

-- what a recovery from a medium answers and leaves: the start's answer and what it tells, with the state and the medium after the steps
pub record Recovers (m : List ℕ) (o : Result Recovered Refusal) (m' : List ℕ) : Type 0 where
  pub answer : answer_of o ≡ (started m).answer
  pub fault : told_in o ≡ start_told m
  pub state : state_after o ≡ (recovered m).state
  pub medium : m' ≡ (recovered m).medium
