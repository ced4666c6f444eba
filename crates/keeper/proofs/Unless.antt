-- A call that is refused leaves what it was handed, in the code's own answer, and tells what its refusal tells; one that is done tells nothing.
use Prim.Native.Nat.{ℕ}
use mathlib.Core.Path.{◌≡◌, sym, ap, ◌∙◌}
use mathlib.Core.List.{List}
use Rattle.std.specs.Prelude.{Ok, Err}
use Rattle.scope.specs.Keeper.{Keeper, Answer, refused}
use Rattle.scope.specs.Row.{faultless}
use Rattle.scope.specs.Refusals.{Call, told}
use Rattle.scope.specs.Calls.{unchanged, act}
use Rattle.scope.proofs.Refusals.{numbered-refused}
use Rattle.answer.specs.Answer.{number_of, told_in}
use Rattle.answer.specs.declared.Refusal.{Refusal}
use Rattle.answer.proofs.Refusals.{number-above}
use Rattle.state.specs.Lent.{lent_to}
use Rattle.refusal.specs.Judges.{Judges}
use Rattle.keeper.specs.Answers.{answer_of, handed, leaves}
use Rattle.keeper.specs.declared.State.{State}
use Rattle.keeper.specs.declared.Outcome.{Outcome}

module _ {S T : Type 0} (a : Call) (s : State) (medium current first last waiting : List ℕ) (r : Outcome T) where
  pub refused-leaves : (f : T → Answer) → ((k : Keeper) → unchanged a k ≡ k) → (x : Refusal) → r ≡ record { answer = Err x; state = s }
      → Judges {T = S} (Err x) a (lent_to s.numbers s.phase medium current first last waiting)
      → (leaves (answer_of f r.answer) r.state medium current first last waiting ≡ act a (handed s medium current first last waiting))
      × (told_in r.answer ≡ told a (handed s medium current first last waiting))
  unfolding leaves handed
  refused-leaves f u x q j =
      let k = lent_to s.numbers s.phase medium current first last waiting in
      rw q (ap (λ g. record { answer = refused (number_of x); keeper = g }) (sym (u k)) ∙ numbered-refused a k (number_of x) j.number (number-above x), j.fault)

  pub done-tells : (v : S) (w : T) (t : State) → r ≡ record { answer = Ok w; state = t } → Judges {T = S} (Ok v) a (lent_to s.numbers s.phase medium current first last waiting)
      → told_in r.answer ≡ told a (handed s medium current first last waiting)
  unfolding handed
  done-tells v w t q j = rw q j.fault

  -- the same where what is told is known
  pub rolled-tells : (v : S) → told_in r.answer ≡ faultless → Judges {T = S} (Ok v) a (lent_to s.numbers s.phase medium current first last waiting)
      → told_in r.answer ≡ told a (handed s medium current first last waiting)
  unfolding handed
  rolled-tells v e j = e ∙ j.fault
