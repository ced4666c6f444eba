-- A call over the boundary, for every call: done on the state in the slice, or refused with 1 where the slice holds none.
use Prim.Native.Nat.{ℕ}
use mathlib.Core.Path.{◌≡◌, refl, sym, ap, ◌∙◌}
use mathlib.Core.Bool.{false}
use mathlib.Core.List.{List}
use native.Mathlib.Omega.{arith}
use borrow.Author.Tests.{eq-eqb, ne_eqb}
use lib.ListN.{length}
use Rattle.std.specs.Prelude.{Result, Ok, Err}
use Rattle.std.specs.Result.{MatchResult, result_unwrap_or}
use Rattle.scope.specs.Bytes.{pick}
use Rattle.scope.specs.Keeper.{Answer, Outcome, State, done, refused, no_state, refusal_of, value_of}
use Rattle.scope.specs.Row.{Fault, faultless, fault_reason, fault_entry}
use Rattle.scope.specs.Refusals.{Call, RecoveryStart, refusal, told}
use Rattle.scope.specs.Calls.{act}
use Rattle.scope.proofs.Callers.{takes_state, refusal-answered}
use Rattle.scope.proofs.Told.{told_nothing}
use Rattle.answer.specs.Answer.{number_of, number_in, told_in}
use Rattle.answer.specs.declared.Refusal.{Refusal}
use Rattle.state.specs.State.{state_of}
use Rattle.state.specs.Lent.{lent_to, stateless}
use Rattle.recovery.specs.Answers.{stepped}
use Rattle.recovery.specs.declared.Step.{Step}
use Rattle.recovery.specs.declared.Step.TheVariants.{Cell, Head, Clean}
use Rattle.keeper.specs.Answers.{answer_of, written_back, handed, leaves}
use Rattle.keeper.specs.declared.Back.{Back}
use Rattle.keeper.specs.declared.Back.TheVariants.{Stored}
use Rattle.keeper.specs.declared.Back.TheVariants as backs
use Rattle.keeper.specs.declared.State as code
use Rattle.boundary.proofs.SevenNumbers.{Holds}
use Rattle.boundary.proofs.Unsound.{zeros_refused}
use Rattle.boundary.specs.Boundary.{numbers_of, is_held_state, seven, state_in, state_after, handed_over, no_value, lent_over, handed_back, over, start_over, start_told, Tells}

-- the number that the code answers is that of the answer
answered : {T : Type 0} (means : T → Answer) → ((v : T) → refusal_of (means v) ≡ 0) → (r : Result T Refusal) → number_in r ≡ refusal_of (answer_of means r)
answered means granted (Ok v) = sym (granted v)
answered means granted (Err x) = refl

pub stepped_granted : (v : Step) → refusal_of (stepped v) ≡ 0
stepped_granted (Cell c) = refl
stepped_granted Head = refl
stepped_granted Clean = refl

pub back_granted : (v : Back) → refusal_of (written_back v) ≡ 0
back_granted Stored = refl
back_granted backs.Clean = refl

-- and the value, 0 where the call is refused

pub unwrapped : (r : Result ℕ Refusal) (v : ℕ) → v ≡ result_unwrap_or r 0 → v ≡ value_of (answer_of done r)
unwrapped (Ok x) v e = e
unwrapped (Err x) v e = e

pub mapped : {T : Type 0} (means : T → Answer) (value : Answer → ℕ) → ((n : ℕ) → value (refused n) ≡ 0) → (r : Result T Refusal) (v : ℕ)
    → MatchResult r (λ x. v ≡ value (means x)) (λ x. v ≡ 0) → v ≡ value (answer_of means r)
mapped means value none (Ok x) v e = e
mapped means value none (Err x) v e = e ∙ sym (none (number_of x))

told_same : (w w' : Fault) (reason entry : ℕ) → w ≡ w' → Tells w reason entry → Tells w' reason entry
told_same w w' reason entry p x = (x.0 ∙ ap fault_reason p, x.1 ∙ ap fault_entry p)

module _ (xs m c f l w : List ℕ) where
  -- the keeper that is lent

  pub lent-state : (s : code.State) → Holds xs (state_of s.numbers s.phase) → handed s m c f l w ≡ lent_over xs m c f l w
  unfolding handed lent_to lent_over state_in
  lent-state s h =
      ap (λ (x : State). record { medium = m; current = c; first = f; last = l; waiting = w; state = x })
      (h.read ∙ ap (λ b. pick b (seven xs) no_state) (sym h.is_state))

  pub lent_none : is_held_state xs ≡ false → stateless m c f l w ≡ lent_over xs m c f l w
  unfolding stateless lent_over state_in
  lent_none p =
      ap (λ b. record { medium = m; current = c; first = f; last = l; waiting = w; state = pick b (seven xs) no_state }) (sym p)

  -- a slice that holds none

  module _ (which : Call) (p : is_held_state xs ≡ false) (x : takes_state which) where
    pub no-state : (value : Answer → ℕ) → value (refused 1) ≡ 0 → (number : ℕ) → number ≡ 1 → handed_over number 0 xs m c f l w ≡ over value which xs m c f l w
    unfolding over handed_back state_after stateless
    no-state value z number n =
        let r = zeros_refused which x m c f l w in
        let o : Outcome = record { answer = refused 1; keeper = stateless m c f l w } in
        rw (n, ← z)
        (ap (λ b. handed_back value (pick b (numbers_of no_state) xs) o) (sym p)
        ∙ ap (λ (x : Outcome). handed_back value (state_after xs x.keeper.state) x) (sym r ∙ ap (act which) (lent_none p)))

    -- with what is told of rows, nothing
    pub no_state_told : (value : Answer → ℕ) → value (refused 1) ≡ 0 → (number : ℕ) → number ≡ 1 → (reason entry : ℕ) → Tells faultless reason entry
        → (handed_over number 0 xs m c f l w ≡ over value which xs m c f l w) × Tells (told which (lent_over xs m c f l w)) reason entry
    no_state_told value z number n reason entry t =
        let k = stateless m c f l w in
        let y : 1 ≡ refusal which k = sym (ap (λ (o : Outcome). refusal_of o.answer) (zeros_refused which x m c f l w)) ∙ refusal-answered which k in
        let nothing = told_nothing which k 1 y (λ h. omega arith) (λ h. omega arith) ∙ ap (told which) (lent_none p) in
        (no-state value z number n, told_same faultless _ reason entry nothing t)

  -- and one that does

  module _ {T : Type 0} (means : T → Answer) (granted : (v : T) → refusal_of (means v) ≡ 0) (value : Answer → ℕ) (which : Call) (s next : code.State)
      (h : Holds xs (state_of s.numbers s.phase)) (r : Result T Refusal) (m2 c2 f2 l2 w2 : List ℕ) (number v : ℕ) (ys : List ℕ) where
    pub crossed : (leaves (answer_of means r) next m2 c2 f2 l2 w2 ≡ act which (handed s m c f l w)) × (told_in r ≡ told which (handed s m c f l w))
        → number ≡ number_in r → v ≡ value (answer_of means r) → ys ≡ numbers_of (state_of next.numbers next.phase)
        → handed_over number v ys m2 c2 f2 l2 w2 ≡ over value which xs m c f l w
    unfolding over handed_back state_after leaves handed lent_to
    crossed d n u y =
        let o : Outcome = leaves (answer_of means r) next m2 c2 f2 l2 w2 in
        rw (n ∙ answered means granted r, u, y)
        (ap (λ b. handed_back value (pick b (numbers_of o.keeper.state) xs) o) (sym h.is_state)
        ∙ ap (λ (x : Outcome). handed_back value (state_after xs x.keeper.state) x) (d.0 ∙ ap (act which) (lent-state s h)))

    pub crossed_told : (leaves (answer_of means r) next m2 c2 f2 l2 w2 ≡ act which (handed s m c f l w)) × (told_in r ≡ told which (handed s m c f l w))
        → number ≡ number_in r → v ≡ value (answer_of means r) → ys ≡ numbers_of (state_of next.numbers next.phase)
        → (reason entry : ℕ) → Tells (told_in r) reason entry
        → (handed_over number v ys m2 c2 f2 l2 w2 ≡ over value which xs m c f l w) × Tells (told which (lent_over xs m c f l w)) reason entry
    crossed_told d n u y reason entry t =
        (crossed d n u y, told_same (told_in r) _ reason entry (d.1 ∙ ap (told which) (lent-state s h)) t)

-- recovery start

module _ (xs m c f l w : List ℕ) where
  pub start_other : (length xs ≡ 7 → ⊥) → (number : ℕ) → number ≡ 1 → (reason entry : ℕ) → Tells faultless reason entry
      → (handed_over number 0 xs m c f l w ≡ start_over xs m c f l w) × Tells (start_told xs m c f l w) reason entry
  unfolding start_over start_told
  start_other h number n reason entry t =
      (rw n (simp (ne_eqb (length xs) 7 h)), told_same faultless (start_told xs m c f l w) reason entry (simp (ne_eqb (length xs) 7 h)) t)

  pub start_crossed : length xs ≡ 7 → (next : code.State) (r : Result ℕ Refusal) (m2 c2 f2 l2 w2 : List ℕ) (number : ℕ) (ys : List ℕ)
      → (leaves (answer_of done r) next m2 c2 f2 l2 w2 ≡ act RecoveryStart (stateless m c f l w)) × (told_in r ≡ told RecoveryStart (stateless m c f l w))
      → number ≡ number_in r → ys ≡ numbers_of (state_of next.numbers next.phase) → (reason entry : ℕ) → Tells (told_in r) reason entry
      → (handed_over number 0 ys m2 c2 f2 l2 w2 ≡ start_over xs m c f l w) × Tells (start_told xs m c f l w) reason entry
  unfolding start_over start_told handed_back leaves handed lent_to stateless
  start_crossed h next r m2 c2 f2 l2 w2 number ys d n y reason entry t = (
    rw (n ∙ answered done (λ v. refl) r, y)
        (ap (λ (x : Outcome). handed_back no_value (numbers_of x.keeper.state) x) d.0 ∙ simp (eq-eqb (length xs) 7 h)),
    told_same (told_in r) (start_told xs m c f l w) reason entry (d.1 ∙ simp (eq-eqb (length xs) 7 h)) t,
  )
