-- What a call's refusal says: the papers' number, and what is told beside it. A call asks its tests part by part: what each part's answer says.
use Rattle.std.specs.Prelude.{ℕ, ◌≡◌, Bool, not, List, [], ◌∷◌, Result, leb}
use Rattle.scope.specs.Row.{Fault, faultless, fault}
use Rattle.scope.specs.Keeper.{Keeper, is_idle, is_recovering}
use Rattle.scope.specs.Refusals.{Call, full, used_up, first_no, refusal, told}
use Rattle.state.specs.State.{phase_of, state_of}
use Rattle.state.specs.declared.Numbers.{Numbers}
use Rattle.state.specs.declared.Phase.{Phase}
use Rattle.answer.specs.Answer.{number_in, told_in}
use Rattle.answer.specs.declared.Refusal.{Refusal}

pub record Judges {T : Type 0} (r : Result T Refusal) (a : Call) (k : Keeper) : Type 0 where
  pub number : number_in r ≡ refusal a k
  pub fault : told_in r ≡ told a k

-- some of a call's tests, which judge no row: the number of the first that holds, and nothing is told
pub record Asks {T : Type 0} (r : Result T Refusal) (tests : List (Bool × ℕ)) : Type 0 where
  pub number : number_in r ≡ first_no tests
  pub fault : told_in r ≡ faultless

-- rows that are judged: 7 where one is bad, and the lowest bad one is told
abbrev pub row_no : Fault → ℕ
row_no faultless = 0
row_no (fault x n) = 7

pub record Tells {T : Type 0} (r : Result T Refusal) (w : Fault) : Type 0 where
  pub number : number_in r ≡ row_no w
  pub fault : told_in r ≡ w

-- the parts that calls have in common: 1 and 10; then 3; 4; 5 and 6
abbrev pub ready_tests : Bool → Phase → List (Bool × ℕ)
ready_tests fit p = (not fit, 1) ∷ (is_recovering (phase_of p), 10) ∷ []

abbrev pub run_tests : Bool → Phase → List (Bool × ℕ)
run_tests fit p = (not fit, 1) ∷ (is_recovering (phase_of p), 10) ∷ (is_idle (phase_of p), 3) ∷ []

abbrev pub cell_tests : Numbers → ℕ → List (Bool × ℕ)
cell_tests n c = (leb n.cells c, 4) ∷ []

abbrev pub room_tests : Numbers → Phase → List (Bool × ℕ)
room_tests n p = (full (state_of n p), 5) ∷ (used_up (state_of n p), 6) ∷ []
