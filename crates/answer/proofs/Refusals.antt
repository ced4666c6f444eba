-- A refusal's number is never 0, it tells something only beside 2 and 7, and number and telling name the refusal: by its variants.
use Prim.Native.Nat.{ℕ}
use mathlib.Core.Path.{◌≡◌, refl, sym, ap, ◌∙◌}
use native.Mathlib.Omega.{arith}
use lib.Dec.{eqb}
use Rattle.std.specs.Prelude.{Result, Ok, Err}
use Rattle.scope.specs.Bytes.{pick}
use Rattle.scope.specs.Row.{Fault, faultless}
use Rattle.row.proofs.Sames.{fault_back, fault_there}
use Rattle.answer.specs.Answer.{number_of, told_with, number_in}
use Rattle.answer.specs.declared.Refusal.{Refusal}
use Rattle.answer.specs.declared.Refusal.TheVariants.{Unfit, Malformed, NoTransaction, NoCell, Full, UsedUp, BadRow, NotStored, NotACut, WrongPhase, NoEntry, NoPart}

pub number-above : (r : Refusal) → number_of r ≡ 0 → ⊥
number-above Unfit p = omega arith
number-above (Malformed w) p = omega arith
number-above NoTransaction p = omega arith
number-above NoCell p = omega arith
number-above Full p = omega arith
number-above UsedUp p = omega arith
number-above (BadRow w) p = omega arith
number-above NotStored p = omega arith
number-above NotACut p = omega arith
number-above WrongPhase p = omega arith
number-above NoEntry p = omega arith
number-above NoPart p = omega arith

pub told-beside : (r : Refusal) → (number_of r ≡ 2 → ⊥) → (number_of r ≡ 7 → ⊥) → told_with r ≡ faultless
told-beside Unfit p q = refl
told-beside (Malformed w) p q = absurd (p refl)
told-beside NoTransaction p q = refl
told-beside NoCell p q = refl
told-beside Full p q = refl
told-beside UsedUp p q = refl
told-beside (BadRow w) p q = absurd (q refl)
told-beside NotStored p q = refl
told-beside NotACut p q = refl
told-beside WrongPhase p q = refl
told-beside NoEntry p q = refl
told-beside NoPart p q = refl

-- a call whose number is 0 has a value
pub value_of-none : {T : Type 0} (r : Result T Refusal) → number_in r ≡ 0 → (x : T) × (r ≡ Ok x)
value_of-none (Ok x) p = (x, refl)
value_of-none (Err r) p = absurd (number-above r p)

refusal_back : ℕ → Fault → Refusal
refusal_back n f =
    pick (eqb n 1) Unfit
    (pick (eqb n 2) (Malformed (fault_back f))
    (pick (eqb n 3) NoTransaction
    (pick (eqb n 4) NoCell
    (pick (eqb n 5) Full
    (pick (eqb n 6) UsedUp
    (pick (eqb n 7) (BadRow (fault_back f))
    (pick (eqb n 8) NotStored (pick (eqb n 9) NotACut (pick (eqb n 10) WrongPhase (pick (eqb n 11) NoEntry NoPart))))))))))

pub refusal-same : (a b : Refusal) → number_of a ≡ number_of b → told_with a ≡ told_with b → a ≡ b
unfolding refusal_back
refusal-same a b p q = sym (go a) ∙ (λ i. refusal_back (p i) (q i)) ∙ go b
  where
    go : (r : Refusal) → refusal_back (number_of r) (told_with r) ≡ r
    go Unfit = refl
    go (Malformed w) = ap Malformed (fault_there w)
    go NoTransaction = refl
    go NoCell = refl
    go Full = refl
    go UsedUp = refl
    go (BadRow w) = ap BadRow (fault_there w)
    go NotStored = refl
    go NotACut = refl
    go WrongPhase = refl
    go NoEntry = refl
    go NoPart = refl
