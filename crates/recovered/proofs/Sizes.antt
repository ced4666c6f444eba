-- The sizes that a recovery works with: no step changes N and C of the state, and a start that isn't refused has those of a head in rule.
use Prim.Native.Nat.{ℕ, zero, suc, ◌+◌, ◌*◌}
use mathlib.Core.Path.{◌≡◌, refl, sym, ap, ◌∙◌}
use mathlib.Core.Bool.{Bool, true, false}
use mathlib.Core.List.{List}
use mathlib.Core.Option.{Option, none, some}
use native.Mathlib.Omega.{arith}
use lib.Dec.{ltb}
use lib.ListN.{replicate}
use Rattle.scope.specs.Bytes.{pick, number_at}
use Rattle.scope.specs.Keeper.{Keeper, Answer, Outcome, done, refused, is_head_ok, with_state, with_medium, dropped_to, made_to, store_cell, store_head}
use Rattle.scope.specs.Recovery.{table_of, differing}
use Rattle.scope.specs.Refusals.{RecoveryStart, RecoveryStep, refusal}
use Rattle.scope.specs.Calls.{step_at, performed, unchanged, unless, act}
use Rattle.state.specs.State.{state_of}
use Rattle.state.specs.Lent.{stateless}
use Rattle.std.specs.Prelude.{Ok}
use Rattle.recovered.specs.declared.Recovered.{Recovered}
use Rattle.recovery.proofs.Recovering.{Head, head_fits}
use Rattle.recovered.proofs.Settled.{start_none}
use Rattle.recovered.specs.Recovered.{is_cell, steps, in_zeros, started, recovered, Recovers}

-- cells and slots of a state, which no step changes

abbrev pub SameSizes : Keeper → Keeper → Type 0
SameSizes k k' = (k.state.cells ≡ k'.state.cells) × (k.state.slots ≡ k'.state.slots)

pub pick_either : {A : Type 0} (P : A → Type 0) (b : Bool) (x y : A) → P x → P y → P (pick b x y)
pick_either P true x y p q = p
pick_either P false x y p q = q

step_sizes : (k : Keeper) → SameSizes (act RecoveryStep k).keeper k
unfolding act performed step_at store_cell store_head with_medium with_state dropped_to made_to
step_sizes k = go (refusal RecoveryStep k) (differing (table_of k.state.cells k.state.slots k.medium) k.current 0)
  where
    go : (x : ℕ) (d : Option ℕ) → SameSizes (unless x (step_at d k) k).keeper k
    go zero (some c) = (refl, refl)
    go zero none = pick_either (λ (o : Outcome). SameSizes o.keeper k) (ltb k.state.h k.state.l) _ _ (refl, refl) (refl, refl)
    go (suc x) d = (refl, refl)

steps_sizes : (left : ℕ) (k : Keeper) → SameSizes (steps left k) k
unfolding steps
steps_sizes zero k = (refl, refl)
steps_sizes (suc left) k =
    let e = step_sizes k in
    let h = steps_sizes left (act RecoveryStep k).keeper in
    pick_either (λ (u : Keeper). SameSizes u k) (is_cell (act RecoveryStep k).answer) _ _ (h.0 ∙ e.0, h.1 ∙ e.1) e

-- a start is accepted, with the sizes that it was asked for, or refused

module _ (m : List ℕ) where
  abbrev N : ℕ
  N = number_at 4 0 m

  abbrev C : ℕ
  C = number_at 4 4 m

  pub started_cases : (P : Answer → ℕ → ℕ → Type 0) → P (done 0) N C → ((x a b : ℕ) → P (refused x) a b)
      → P (started m).answer (started m).keeper.state.cells (started m).keeper.state.slots
  unfolding started act
  started_cases P accepted else = go (refusal RecoveryStart (in_zeros m))
    where
      begun : ℕ → Outcome
      begun x = unless x (performed RecoveryStart (in_zeros m)) (unchanged RecoveryStart (in_zeros m))

      go : (x : ℕ) → P (begun x).answer (begun x).keeper.state.cells (begun x).keeper.state.slots
      go zero = unfold performed stateless in accepted
      go (suc x) = else _ _ _

  pub started_sizes : (v : ℕ) → (started m).answer ≡ done v → ((started m).keeper.state.cells ≡ N) × ((started m).keeper.state.slots ≡ C)
  started_sizes v =
      started_cases (λ a n c. a ≡ done v → (n ≡ N) × (c ≡ C)) (λ e. (refl, refl)) (λ x a b e. let z : ◌≡◌ {A = ℕ} 0 1 = cc in absurd (omega arith))

  pub started_fits : (v : ℕ) → (started m).answer ≡ done v → Head m
  unfolding started
  started_fits v e = go (is_head_ok m) refl
    where
      go : (t : Bool) → is_head_ok m ≡ t → Head m
      go true t = head_fits m true (sym t) refl
      go false t =
          let q : refused 1 ≡ done v = sym (ap (λ x. x.answer) (start_none m (replicate N 0) (replicate N 0) (replicate N 0) (replicate (32 * C) 0) t)) ∙ e in
          let z : ◌≡◌ {A = ℕ} 0 1 = cc in absurd (omega arith)

  pub recovered_sizes : SameSizes (recovered m) (started m).keeper
  unfolding recovered
  recovered_sizes = steps_sizes (N + 1) (started m).keeper

  -- N and C of the state that a recovery leaves are those of a head in rule
  pub recovers_sizes : (o : Recovered) (m' : List ℕ) → Recovers m (Ok o) m' → Head m × ((o.numbers.cells ≡ N) × (o.numbers.slots ≡ C))
  unfolding state_of
  recovers_sizes o m' r =
      let e : (started m).answer ≡ done 0 = sym r.answer in
      let z = started_sizes 0 e in
      (started_fits 0 e, (ap (λ s. s.cells) r.state ∙ recovered_sizes.0 ∙ z.0, ap (λ s. s.slots) r.state ∙ recovered_sizes.1 ∙ z.1))
