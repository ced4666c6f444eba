-- Recovery run to its end: steps that remain give what all give, a step looks at medium and current values alone, and none changes
-- anything after a start that the head refuses. So a start and its steps in workspaces of zeros are those of the definition.
use Prim.Native.Nat.{ℕ, zero, suc, ◌+◌, ◌*◌, ◌≤◌}
use mathlib.Core.Path.{◌≡◌, refl, sym, ap, ◌∙◌}
use mathlib.Core.Bool.{Bool, true, false}
use mathlib.Core.List.{List, [], ◌∷◌}
use native.Mathlib.Omega.{arith}
use lib.ListN.{length, replicate, take, length-replicate}
use Rattle.scope.specs.Bytes.{pick, number_at}
use Rattle.scope.specs.Row.{faultless}
use Rattle.scope.specs.Keeper.{Keeper, Answer, done, refused, is_head_ok, no_state, in_range, sound, with_state}
use Rattle.scope.specs.Refusals.{RecoveryStart, RecoveryStep, unfit, refusal, tests, told}
use Rattle.scope.specs.Calls.{act, performed}
use Rattle.scope.proofs.Frames.{onto, frame}
use Rattle.scope.proofs.Told.{told_nothing}
use Rattle.std.specs.Prelude.{Ok, Err}
use Rattle.answer.specs.Answer.{number_of, told_with}
use Rattle.answer.specs.declared.Refusal.{Refusal}
use Rattle.state.specs.Lent.{lent_to, stateless, left}
use Rattle.state.specs.declared.Numbers.{Numbers}
use Rattle.state.specs.declared.Phase.{Phase}
use Rattle.state.specs.State.{state_of}
use Rattle.state.specs.declared.Phase.TheVariants.{Idle, Recovering}
use Rattle.recovery.specs.Answers.{stepped, zeros, start_left}
use Rattle.recovery.specs.declared.Step.{Step}
use Rattle.recovery.specs.declared.Step.TheVariants as step
use Rattle.recovery.proofs.Recovering.{head_fits}
use Rattle.recovered.specs.Recovered.{is_cell, steps, started, start_told, recovered, head_number, Zeroed, Recovers}
use Rattle.recovered.specs.declared.Recovered.{Recovered}

-- one step of those that remain

module _ (n n' : Numbers) (p p' : Phase) (m m' current : List ℕ) (a : Answer) (e : left a n' p' m' current [] [] [] ≡ act RecoveryStep (lent_to n p m current [] [] [])) where
  pub steps_again : (turns rest : ℕ) → turns ≡ suc rest → is_cell a ≡ true → steps turns (lent_to n p m current [] [] []) ≡ steps rest (lent_to n' p' m' current [] [] [])
  unfolding steps left
  steps_again turns rest z t = rw z (simp (← e, t))

  pub steps_stop : (turns rest : ℕ) → turns ≡ suc rest → is_cell a ≡ false → lent_to n' p' m' current [] [] [] ≡ steps turns (lent_to n p m current [] [] [])
  unfolding steps left
  steps_stop turns rest z t = rw z (simp (← e, t))

pub steps-end : (k : Keeper) (left : ℕ) → left ≡ 0 → k ≡ steps left k
unfolding steps
steps-end k zero e = refl
steps-end k (suc left) e = absurd (omega arith)

-- a step of another variant than Cell
pub no_cell : (x : Step) → ((c : ℕ) → x ≡ step.Cell c → ⊥) → is_cell (stepped x) ≡ false
no_cell (step.Cell c) h = absurd (h c refl)
no_cell step.Head h = refl
no_cell step.Clean h = refl

-- a keeper without what a step isn't lent

module _ (g : Keeper) where
  step_frame : (k : Keeper) → act RecoveryStep (onto RecoveryStep g k) ≡ record { answer = (act RecoveryStep k).answer; keeper = onto RecoveryStep g (act RecoveryStep k).keeper }
  unfolding act
  step_frame k = frame RecoveryStep g k

  pick_frame : (b : Bool) (u v x y : Keeper) → u ≡ onto RecoveryStep g x → v ≡ onto RecoveryStep g y → pick b u v ≡ onto RecoveryStep g (pick b x y)
  pick_frame true u v x y p q = p
  pick_frame false u v x y p q = q

  steps_frame : (left : ℕ) (k : Keeper) → steps left (onto RecoveryStep g k) ≡ onto RecoveryStep g (steps left k)
  unfolding steps
  steps_frame zero k = refl
  steps_frame (suc left) k =
      let e = step_frame k in
      ap (λ o. pick (is_cell o.answer) (steps left o.keeper) o.keeper) e
      ∙ pick_frame (is_cell (act RecoveryStep k).answer) _ _ _ _ (steps_frame left (act RecoveryStep k).keeper) refl

-- without a state, no step changes anything

step_none : (k : Keeper) → k.state ≡ no_state → act RecoveryStep k ≡ record { answer = refused 1; keeper = k }
unfolding act performed refusal tests unfit sound in_range no_state
step_none k e = let z : sound k.state ≡ false = ap sound e in simp z

steps-none : (left : ℕ) (k : Keeper) → k.state ≡ no_state → steps left k ≡ k
unfolding steps
steps-none zero k e = refl
steps-none (suc left) k e = ap (λ o. pick (is_cell o.answer) (steps left o.keeper) o.keeper) (step_none k e)

-- a start on a head that isn't in rule

pub start_none : (m current first last waiting : List ℕ) → is_head_ok m ≡ false
    → act RecoveryStart (stateless m current first last waiting) ≡ record { answer = refused 1; keeper = stateless m current first last waiting }
unfolding act performed refusal tests stateless with_state no_state
start_none m current first last waiting e = simp e

none_told : (m current first last waiting : List ℕ) → is_head_ok m ≡ false → faultless ≡ told RecoveryStart (stateless m current first last waiting)
none_told m current first last waiting e = told_nothing RecoveryStart (stateless m current first last waiting) 1 number_1 (λ z. omega arith) (λ z. omega arith)
  where
    number_1 : 1 ≡ refusal RecoveryStart (stateless m current first last waiting)
    number_1 = unfold refusal tests stateless in simp e

-- N and C of a head in rule

pub head-number : (at : ℕ) (m : List ℕ) (t : Bool) → t ≡ is_head_ok m → t ≡ true → number_at 4 at m ≡ head_number at m
unfolding head_number
head-number at m t e p = simp (← e, p)

pub head-number-none : (at : ℕ) (m : List ℕ) (t : Bool) → t ≡ is_head_ok m → t ≡ false → 0 ≡ head_number at m
unfolding head_number
head-number-none at m t e p = simp (← e, p)

pub head_numbers_fit : (m : List ℕ) → (head_number 0 m ≤ 1024) × (head_number 4 m ≤ 1024)
unfolding head_number
head_numbers_fit m = go (is_head_ok m) refl
  where
    go : (t : Bool) → t ≡ is_head_ok m → (pick t (number_at 4 0 m) 0 ≤ 1024) × (pick t (number_at 4 4 m) 0 ≤ 1024)
    go true e = let h = head_fits m true e refl in (h.cells≤, h.slots≤)
    go false e = (omega arith, omega arith)

-- zeros

take_zeros : (n k : ℕ) → n ≤ k → take n (replicate {A = ℕ} k 0) ≡ replicate n 0
take_zeros zero k h = refl
take_zeros (suc n) zero h = absurd (omega arith)
take_zeros (suc n) (suc k) h = ap (λ l. 0 ∷ l) (take_zeros n k (omega arith))

pub length_zeros : (n k : ℕ) → n ≤ k → n ≡ length (take n (replicate {A = ℕ} k 0))
length_zeros n k h = sym (ap length (take_zeros n k h) ∙ length-replicate n 0)

part_zeros : (k n j : ℕ) → n ≡ j → j ≤ k → take n (replicate {A = ℕ} k 0) ≡ replicate j 0
part_zeros k n j q h = ap (λ i. take i (replicate {A = ℕ} k 0)) q ∙ take_zeros j k h

-- parts of workspaces of zeros, as the head says
pub zeroed : (m : List ℕ) (n w : ℕ) → n ≡ head_number 0 m → w ≡ 32 * head_number 4 m → Zeroed m (take n (replicate 1024 0)) (take w (replicate 32768 0))
zeroed m n w qn qw =
    let h = head_numbers_fit m in
    record {
      current-zero = part_zeros 1024 n (head_number 0 m) qn h.0;
      waiting-zero = part_zeros 32768 w (32 * head_number 4 m) qw (omega arith);
    }

-- what a recovery in such workspaces answers and leaves

module _ (m current waiting : List ℕ) (d : Zeroed m current waiting) where
  zeroed_cells : length current ≡ head_number 0 m
  zeroed_cells = ap length d.current-zero ∙ length-replicate (head_number 0 m) 0

  pub zeroed_fits : length current ≤ 1024
  zeroed_fits = let h = head_numbers_fit m in omega (arith, zeroed_cells)

  pub zeroed_part : take (length current) (replicate {A = ℕ} 1024 0) ≡ replicate (length current) 0
  zeroed_part = take_zeros (length current) 1024 zeroed_fits

  module _ (first last : List ℕ) (qf : first ≡ replicate (length current) 0) (ql : last ≡ replicate (length current) 0) where
    -- the steps after the start, as many as the workspaces say
    abbrev last-keeper : Keeper
    last-keeper = steps (length current + 1) (act RecoveryStart (stateless m current first last waiting)).keeper

    abbrev As_started : Type 0
    As_started =
        ((act RecoveryStart (stateless m current first last waiting)).answer ≡ (started m).answer)
        × ((told RecoveryStart (stateless m current first last waiting) ≡ start_told m)
        × ((last-keeper.state ≡ (recovered m).state) × (last-keeper.medium ≡ (recovered m).medium)))

    in_rule : is_head_ok m ≡ true → As_started
    unfolding started start_told recovered
    in_rule t =
        let n : head_number 0 m ≡ number_at 4 0 m = sym (head-number 0 m true (sym t) refl) in
        let c : head_number 4 m ≡ number_at 4 4 m = sym (head-number 4 m true (sym t) refl) in
        let l = zeroed_cells ∙ n in
        let zeros : ℕ → List ℕ = λ x. replicate x 0 in
        let qc = d.current-zero ∙ ap zeros n in
        let qw = d.waiting-zero ∙ ap (λ x. replicate {A = ℕ} (32 * x) 0) c in
        let qf' = qf ∙ ap zeros l in
        let ql' = ql ∙ ap zeros l in
        let e : act RecoveryStart (stateless m current first last waiting) ≡ started m = λ i. act RecoveryStart (stateless m (qc i) (qf' i) (ql' i) (qw i)) in
        let w : told RecoveryStart (stateless m current first last waiting) ≡ start_told m = λ i. told RecoveryStart (stateless m (qc i) (qf' i) (ql' i) (qw i)) in
        (ap (λ o. o.answer) e, (w, ((λ i. (steps (l i + 1) (e i).keeper).state), (λ i. (steps (l i + 1) (e i).keeper).medium))))

    out_of_rule : is_head_ok m ≡ false → As_started
    unfolding started start_told recovered stateless
    out_of_rule f =
        let s = start_none m current first last waiting f in
        let n = number_at 4 0 m in
        let u = start_none m (replicate n 0) (replicate n 0) (replicate n 0) (replicate (32 * number_at 4 4 m) 0) f in
        let w = sym (none_told m current first last waiting f) ∙ none_told m (replicate n 0) (replicate n 0) (replicate n 0) (replicate (32 * number_at 4 4 m) 0) f in
        let p = ap (λ o. steps (length current + 1) o.keeper) s ∙ steps-none (length current + 1) _ refl in
        let q = ap (λ o. steps (n + 1) o.keeper) u ∙ steps-none (n + 1) _ refl in
        (ap (λ o. o.answer) s ∙ sym (ap (λ o. o.answer) u), (w, (ap (λ k. k.state) p ∙ sym (ap (λ k. k.state) q), ap (λ k. k.medium) p ∙ sym (ap (λ k. k.medium) q))))

    as_started : As_started
    as_started = go (is_head_ok m) refl
      where
        go : (t : Bool) → is_head_ok m ≡ t → As_started
        go true e = in_rule e
        go false e = out_of_rule e

    -- steps from what the start left
    ended : (a : Answer) (n n' : Numbers) (p p' : Phase) (current' first' last' m' : List ℕ)
        → left a n p m current' first' last' waiting ≡ act RecoveryStart (stateless m current first last waiting)
        → lent_to n' p' m' current' [] [] [] ≡ steps (length current + 1) (lent_to n p m current' [] [] [])
        → (a ≡ (started m).answer) × ((state_of n' p' ≡ (recovered m).state) × (m' ≡ (recovered m).medium))
    unfolding lent_to left
    ended a n n' p p' current' first' last' m' e r =
        let g = lent_to n p m current' [] [] [] in
        let f = steps_frame g (length current + 1) (lent_to n p m current' first' last' waiting) in
        let all = r ∙ f ∙ ap (λ x. onto RecoveryStep g (steps (length current + 1) x.keeper)) e in (
          ap (λ x. x.answer) e ∙ as_started.0,
          (ap (λ k. k.state) all ∙ as_started.1.1.0, ap (λ k. k.medium) all ∙ as_started.1.1.1),
        )

    pub recovers_on : (n : Numbers) (o : Recovered) (current' first' last' m' : List ℕ)
        → (start_left (Ok n) m current' first' last' waiting ≡ act RecoveryStart (stateless m current first last waiting))
        × (faultless ≡ told RecoveryStart (stateless m current first last waiting))
        → lent_to o.numbers o.phase m' current' [] [] [] ≡ steps (length current + 1) (lent_to n Recovering m current' [] [] [])
        → Recovers m (Ok o) m'
    recovers_on n o current' first' last' m' e r =
        let x = ended (done 0) n o.numbers Recovering o.phase current' first' last' m' e.0 r in
        record { answer = x.0; fault = e.1 ∙ as_started.1.0; state = x.1.0; medium = x.1.1 }

    -- a refused start leaves no state, and no step changes anything then
    pub recovers_refused : (y : Refusal) (current' first' last' : List ℕ)
        → (start_left (Err y) m current' first' last' waiting ≡ act RecoveryStart (stateless m current first last waiting))
        × (told_with y ≡ told RecoveryStart (stateless m current first last waiting))
        → Recovers m (Err y) m
    unfolding lent_to state_of no_state
    recovers_refused y current' first' last' e =
        let none = steps-none (length current + 1) (lent_to zeros Idle m current' [] [] []) refl in
        let x = ended (refused (number_of y)) zeros zeros Idle Idle current' first' last' m e.0 (sym none) in
        record { answer = x.0; fault = e.1 ∙ as_started.1.0; state = x.1.0; medium = x.1.1 }
