-- What the code's state and answers mean, and what a call is handed and leaves.
use Rattle.std.specs.Prelude.{ℕ, List, Result, Ok, Err}
use Rattle.scope.specs.Keeper.{Keeper, Outcome, Answer, refused, clean, stored}
use Rattle.answer.specs.Answer.{number_of}
use Rattle.answer.specs.declared.Refusal.{Refusal}
use Rattle.state.specs.Lent.{lent_to}
use Rattle.keeper.specs.declared.State.{State}
use Rattle.keeper.specs.declared.Back.{Back}
use Rattle.keeper.specs.declared.Back.TheVariants.{Stored, Clean}

-- what a call answers where it is done, or the refusal's number
abbrev pub answer_of : {T : Type 0} → (T → Answer) → Result T Refusal → Answer
answer_of f (Ok v) = f v
answer_of f (Err r) = refused (number_of r)

-- write-back
abbrev pub written_back : Back → Answer
written_back Stored = stored
written_back Clean = clean

-- medium, current values, `first`, `last` and waiting rows, with a state
unfoldable pub handed : State → List ℕ → List ℕ → List ℕ → List ℕ → List ℕ → Keeper
handed s medium current first last waiting = lent_to s.numbers s.phase medium current first last waiting

unfoldable pub leaves : Answer → State → List ℕ → List ℕ → List ℕ → List ℕ → List ℕ → Outcome
leaves a s medium current first last waiting = record { answer = a; keeper = handed s medium current first last waiting }
