-- What the crate `recovery` leaves, in the form of the keeper's state: its numbers and phase, side by side, are the state.
use Prim.Native.Nat.{ℕ}
use mathlib.Core.Path.{◌≡◌}
use mathlib.Core.List.{List, []}
use Rattle.std.specs.Prelude.{Ok, Err}
use Rattle.scope.specs.Keeper.{Outcome, done}
use Rattle.scope.specs.Row.{Fault, faultless}
use Rattle.scope.specs.Refusals.{RecoveryStep, told}
use Rattle.scope.specs.Calls.{act}
use Rattle.answer.specs.Answer.{told_in, told_with}
use Rattle.answer.specs.declared.Refusal.{Refusal}
use Rattle.state.specs.Lent.{lent_to, left}
use Rattle.state.specs.declared.Numbers.{Numbers}
use Rattle.state.specs.declared.Phase.TheVariants.{Idle, Recovering}
use Rattle.recovery.specs.declared.Step.{Step}
use Rattle.recovery.specs.declared.Stepped.{Stepped}
use Rattle.recovery.specs.Answers.{stepped, zeros, start_left, step_left}
use Rattle.keeper.specs.Answers.{answer_of, handed, leaves}
use Rattle.keeper.specs.declared.State.{State}
use Rattle.keeper.specs.declared.Outcome as code

module _ (m current first last waiting : List ℕ) (o : Outcome) (y : Fault) (r : code.Outcome ℕ) where
  pub start_done : (n : Numbers) → r ≡ record { answer = Ok 0; state = record { numbers = n; phase = Recovering } }
      → (start_left (Ok n) m current first last waiting ≡ o) × (faultless ≡ y)
      → (leaves (answer_of done r.answer) r.state m current first last waiting ≡ o) × (told_in r.answer ≡ y)
  unfolding leaves handed left
  start_done n q e = rw q e

  pub start_refused : (x : Refusal) → r ≡ record { answer = Err x; state = record { numbers = zeros; phase = Idle } }
      → (start_left (Err x) m current first last waiting ≡ o) × (told_with x ≡ y)
      → (leaves (answer_of done r.answer) r.state m current first last waiting ≡ o) × (told_in r.answer ≡ y)
  unfolding leaves handed left
  start_refused x q e = rw q e

module _ (s : State) (m₀ m current : List ℕ) (r : code.Outcome Step) where
  pub step_done : (u : Stepped) → r ≡ record { answer = Ok u.step; state = record { numbers = u.numbers; phase = u.phase } }
      → (step_left (Ok u) s.numbers s.phase m current [] [] [] ≡ act RecoveryStep (lent_to s.numbers s.phase m₀ current [] [] []))
      × (faultless ≡ told RecoveryStep (lent_to s.numbers s.phase m₀ current [] [] []))
      → (leaves (answer_of stepped r.answer) r.state m current [] [] [] ≡ act RecoveryStep (handed s m₀ current [] [] []))
      × (told_in r.answer ≡ told RecoveryStep (handed s m₀ current [] [] []))
  unfolding leaves handed left
  step_done u q e = rw q e

  pub step_refused : (x : Refusal) → r ≡ record { answer = Err x; state = s }
      → (step_left (Err x) s.numbers s.phase m current [] [] [] ≡ act RecoveryStep (lent_to s.numbers s.phase m₀ current [] [] []))
      × (told_with x ≡ told RecoveryStep (lent_to s.numbers s.phase m₀ current [] [] []))
      → (leaves (answer_of stepped r.answer) r.state m current [] [] [] ≡ act RecoveryStep (handed s m₀ current [] [] []))
      × (told_in r.answer ≡ told RecoveryStep (handed s m₀ current [] [] []))
  unfolding leaves handed left
  step_refused x q e = rw q e
