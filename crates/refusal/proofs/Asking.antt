-- A call asks its tests part by part: it leaves at the first part that refuses, and what it passed holds nowhere. By cutting the table in two.
use Prim.Native.Nat.{ℕ}
use mathlib.Core.Path.{◌≡◌, refl, sym, ap, ◌∙◌, subst}
use mathlib.Core.Bool.{Bool, true, false, not, false≢true}
use mathlib.Core.List.{List, [], ◌∷◌, ◌++◌}
use native.Mathlib.Omega.{arith}
use borrow.Author.Tests.{not-false}
use Rattle.std.specs.Prelude.{Result, Ok, Err, IsErrAnd}
use Rattle.std.proofs.lemmas.Result.{err_from_is_err_and}
use Rattle.scope.specs.Bytes.{pick}
use Rattle.scope.specs.Row.{faultless}
use Rattle.scope.specs.Keeper.{Keeper}
use Rattle.scope.specs.Refusals.{Call, tests, first_no, refusal}
use Rattle.scope.proofs.Refusals.{Numbered, NoneOf, first_no-none}
use Rattle.scope.proofs.Told.{is_fault, told_nothing}
use Rattle.answer.specs.Answer.{number_of, told_with, number_in, told_in}
use Rattle.answer.specs.declared.Refusal.{Refusal}
use Rattle.answer.specs.declared.Refusal.TheVariants.{Unfit, Malformed, NoTransaction, NoCell, Full, UsedUp, BadRow, NotStored, NotACut, WrongPhase, NoEntry, NoPart}
use Rattle.answer.proofs.Refusals.{number-above}
use Rattle.refusal.specs.Judges.{Judges, Asks}

-- a table cut in two

pub early : (xs ys : List (Bool × ℕ)) → (first_no xs ≡ 0 → ⊥) → first_no xs ≡ first_no (xs ++ ys)
early [] ys h = absurd (h refl)
early (x ∷ xs) ys h = go x.0 h (early xs ys)
  where
    go : (b : Bool) → (pick b x.1 (first_no xs) ≡ 0 → ⊥) → ((first_no xs ≡ 0 → ⊥) → first_no xs ≡ first_no (xs ++ ys))
        → pick b x.1 (first_no xs) ≡ pick b x.1 (first_no (xs ++ ys))
    go true g rest = refl
    go false g rest = rest g

pub late : (xs ys : List (Bool × ℕ)) → Numbered xs → first_no xs ≡ 0 → first_no ys ≡ first_no (xs ++ ys)
late [] ys n h = refl
late (x ∷ xs) ys n h = go x.0 h (late xs ys n.1)
  where
    go : (b : Bool) → pick b x.1 (first_no xs) ≡ 0 → (first_no xs ≡ 0 → first_no ys ≡ first_no (xs ++ ys)) → first_no ys ≡ pick b x.1 (first_no (xs ++ ys))
    go true g rest = absurd (omega (arith, n.0))
    go false g rest = rest g

-- a part that refuses

pub stop : {S : Type 0} (xs ys : List (Bool × ℕ)) (x : Refusal) → Asks {T = S} (Err x) xs → Asks {T = S} (Err x) (xs ++ ys)
stop xs ys x s = record { number = s.number ∙ early xs ys (λ z. number-above x (s.number ∙ z)); fault = s.fault }

-- `?` hands the refusal on
pub handed-on : {T : Type 0} (x : Refusal) (r : Result T Refusal) → IsErrAnd r (λ y. y ≡ x) → r ≡ Err x
handed-on x r i = let p = err_from_is_err_and r i in p.1 ∙ ap Err p.2

-- a part of one test
module _ {T : Type 0} (b : Bool) (n : ℕ) where
  pub holds : (x : Refusal) → b ≡ true → number_of x ≡ n → told_with x ≡ faultless → Asks {T = T} (Err x) ((b, n) ∷ [])
  holds x t e f = record { number = rw t e; fault = f }

  pub none_holds : (v : T) → b ≡ false → Asks (Ok v) ((b, n) ∷ [])
  none_holds v t = record { number = rw t refl; fault = refl }

-- a part that is passed

pub go_on : {S T : Type 0} (xs ys : List (Bool × ℕ)) (v : S) (r : Result T Refusal) → Numbered xs → Asks {T = S} (Ok v) xs → Asks r ys → Asks r (xs ++ ys)
go_on xs ys v r n s t = record { number = t.number ∙ late xs ys n (sym s.number); fault = t.fault }

pub passed : {S : Type 0} (xs : List (Bool × ℕ)) (v : S) → Numbered xs → Asks {T = S} (Ok v) xs → NoneOf xs
passed xs v n s = first_no-none xs n (sym s.number)

pub is_fit : {S : Type 0} (v : S) (fit : Bool) (xs : List (Bool × ℕ)) → Numbered xs → Asks {T = S} (Ok v) ((not fit, 1) ∷ xs) → fit ≡ true
is_fit v fit xs n s = not-false fit (passed ((not fit, 1) ∷ xs) v (omega arith, n) s).0

-- all parts: a refusal that tells nothing has neither of the numbers beside which something is told

silent : {T : Type 0} (r : Result T Refusal) → told_in r ≡ faultless → (number_in r ≡ 2 → ⊥) × (number_in r ≡ 7 → ⊥)
silent (Ok x) e = omega arith
silent (Err Unfit) e = omega arith
silent (Err (Malformed w)) e = absurd (false≢true (sym (ap is_fault e)))
silent (Err NoTransaction) e = omega arith
silent (Err NoCell) e = omega arith
silent (Err Full) e = omega arith
silent (Err UsedUp) e = omega arith
silent (Err (BadRow w)) e = absurd (false≢true (sym (ap is_fault e)))
silent (Err NotStored) e = omega arith
silent (Err NotACut) e = omega arith
silent (Err WrongPhase) e = omega arith
silent (Err NoEntry) e = omega arith
silent (Err NoPart) e = omega arith

pub judged : {T : Type 0} (a : Call) (k : Keeper) (r : Result T Refusal) → number_in r ≡ refusal a k → told_in r ≡ faultless → Judges r a k
judged a k r e f = let s = silent r f in record { number = e; fault = f ∙ told_nothing a k (number_in r) e s.0 s.1 }

module _ {S T : Type 0} (a : Call) (k : Keeper) (xs ys : List (Bool × ℕ)) (e : xs ++ ys ≡ tests a k) where
  -- refused by a part: `?` hands that on
  pub stopped : (x : Refusal) (r : Result T Refusal) → IsErrAnd r (λ y. y ≡ x) → Asks {T = S} (Err x) xs → Judges r a k
  unfolding refusal
  stopped x r i s = subst (λ q. Judges q a k) (sym (handed-on x r i)) (judged a k (Err x) ((stop xs ys x s).number ∙ ap first_no e) s.fault)

  -- the last part, where those before are passed
  pub ended : (v : S) (r : Result T Refusal) → Numbered xs → Asks {T = S} (Ok v) xs → Asks r ys → Judges r a k
  unfolding refusal
  ended v r n s t = judged a k r ((go_on xs ys v r n s t).number ∙ ap first_no e) t.fault
