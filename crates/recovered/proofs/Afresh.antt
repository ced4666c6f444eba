-- A MEDIUM OF A HISTORY, RECOVERED: the start is accepted, and the table is then the one worked out afresh from the stored transactions,
-- under a head in rule. Demand 3's steps are the definition's: a step after the end is refused, so none before the last one ended.
use Prim.Native.Nat.{ℕ, zero, suc, ◌+◌, ◌*◌, ◌≤◌, ◌<◌}
use mathlib.Core.Path.{◌≡◌, refl, sym, ap, subst, ◌∙◌}
use mathlib.Core.Bool.{Bool, true, false, false≢true}
use mathlib.Core.List.{List, [], ◌∷◌}
use mathlib.Core.Option.{Option, none, some}
use native.Mathlib.Omega.{arith}
use lib.Dec.{ltb}
use lib.ListN.{replicate, length-replicate}
use Rattle.scope.specs.Bytes.{pick, number_at}
use Rattle.scope.specs.Row.{Entry}
use Rattle.scope.specs.Keeper.{Keeper, Answer, done, refused, cell, head, clean, stored, part, Outcome, is_recovering, is_head_ok, with_state, dropped_to, made_to}
use Rattle.scope.specs.Recovery.{table_of, differing}
use Rattle.scope.specs.Refusals.{RecoveryStart, RecoveryStep, refusal, tests, unfit}
use Rattle.scope.specs.Calls.{step_at, unless, act, performed}
use Rattle.scope.specs.History.{Event, call, power_loss, happen, after, Allowed, History, reached, transactions, wanted}
use Rattle.scope.specs.Demands.{Sized, ended, names, named, stored_journal}
use Rattle.scope.proofs.Medium.{n≡, c≡, head_ok}
use Rattle.scope.proofs.Histories.{Rest, resting, always}
use Rattle.scope.proofs.Demand3.{safe, ends_soon, ends_afresh, start_never_refused}
use Rattle.state.specs.Lent.{stateless}
use Rattle.recovered.proofs.Sizes.{pick_either}
use Rattle.recovered.specs.Recovered.{is_cell, steps, started, recovered}

-- a step that stores no cell is the last that is accepted

abbrev Declined : Keeper → Type 0
Declined k = refusal RecoveryStep k ≡ 0 → ⊥

-- idle: 1 or 10
idle_declined : (k : Keeper) → is_recovering k.state.phase ≡ false → Declined k
unfolding refusal tests
idle_declined k e z = go (unfit RecoveryStep k) (simp e at z)
  where
    go : (b : Bool) → ◌≡◌ {A = ℕ} (pick b 1 10) 0 → ⊥
    go true q = omega arith
    go false q = omega arith

no_cell_declined : (k : Keeper) → is_cell (act RecoveryStep k).answer ≡ false → Declined (act RecoveryStep k).keeper
unfolding act performed step_at with_state dropped_to made_to
no_cell_declined k = go (refusal RecoveryStep k) (differing (table_of k.state.cells k.state.slots k.medium) k.current 0) refl
  where
    go : (x : ℕ) (d : Option ℕ) → refusal RecoveryStep k ≡ x → is_cell (unless x (step_at d k) k).answer ≡ false → Declined (unless x (step_at d k) k).keeper
    go (suc x) d e f z = omega arith
    go zero (some c) e f z = false≢true (sym f)
    go zero none e f z =
        pick_either (λ (o : Outcome). Declined o.keeper) (ltb k.state.h k.state.l) _ _ (idle_declined _ refl) (idle_declined _ refl) z

declined_same : (k : Keeper) → Declined k → ((act RecoveryStep k).keeper ≡ k) × (ended (act RecoveryStep k).answer ≡ false)
unfolding act performed
declined_same k h = go (refusal RecoveryStep k) h
  where
    go : (x : ℕ) → (x ≡ 0 → ⊥) → ((unless x (step_at (differing (table_of k.state.cells k.state.slots k.medium) k.current 0) k) k).keeper ≡ k)
        × (ended (unless x (step_at (differing (table_of k.state.cells k.state.slots k.medium) k.current 0) k) k).answer ≡ false)
    go zero n = absurd (n refl)
    go (suc x) n = (refl, refl)

-- j steps, as events

abbrev stepped : ℕ → Keeper → Keeper
stepped j k = after (replicate j (call RecoveryStep)) k

stepped-next : (j : ℕ) (k : Keeper) → stepped (suc j) k ≡ stepped j (act RecoveryStep k).keeper
unfolding after happen act
stepped-next j k = refl

declined_stays : (j : ℕ) (k : Keeper) → Declined k → stepped j k ≡ k
unfolding after
declined_stays zero k h = refl
declined_stays (suc j) k h =
    let e = (declined_same k h).0 in
    stepped-next j k ∙ ap (stepped j) e ∙ declined_stays j k h

ended_no_cell : (a : Answer) → ended a ≡ true → is_cell a ≡ false
ended_no_cell (done v) e = absurd (false≢true e)
ended_no_cell (refused n) e = absurd (false≢true e)
ended_no_cell (cell c) e = absurd (false≢true e)
ended_no_cell head e = refl
ended_no_cell clean e = refl
ended_no_cell stored e = absurd (false≢true e)
ended_no_cell (part b) e = absurd (false≢true e)

-- where the step after j steps ends recovery, the definition stops there too
steps-ended : (j turns : ℕ) (k : Keeper) → j < turns → ended (act RecoveryStep (stepped j k)).answer ≡ true → steps turns k ≡ (act RecoveryStep (stepped j k)).keeper
unfolding steps after
steps-ended j zero k h e = absurd (omega arith)
steps-ended zero (suc turns) k h e = ap (λ b. pick b (steps turns (act RecoveryStep k).keeper) (act RecoveryStep k).keeper) (ended_no_cell (act RecoveryStep k).answer e)
steps-ended (suc j) (suc turns) k h e = go (is_cell (act RecoveryStep k).answer) refl (steps-ended j turns k₁ (omega arith) e₁)
  where
    k₁ : Keeper
    k₁ = (act RecoveryStep k).keeper

    e₁ : ended (act RecoveryStep (stepped j k₁)).answer ≡ true
    e₁ = subst (λ x. ended (act RecoveryStep x).answer ≡ true) (stepped-next j k) e

    go : (b : Bool) → is_cell (act RecoveryStep k).answer ≡ b → steps turns k₁ ≡ (act RecoveryStep (stepped j k₁)).keeper
        → pick b (steps turns k₁) k₁ ≡ (act RecoveryStep (stepped (suc j) k)).keeper
    go true q r = r ∙ sym (ap (λ x. (act RecoveryStep x).keeper) (stepped-next j k))
    go false q r =
        let n = no_cell_declined k q in
        absurd (false≢true (sym (declined_same k₁ n).1 ∙ ap (λ x. ended (act RecoveryStep x).answer) (sym (declined_stays j k₁ n)) ∙ e₁))

-- no more cells are named than there are

named_fits : (n : ℕ) (es : List Entry) → named n es ≤ n
named_fits zero es = omega arith
named_fits (suc n) es = go (names n es) (named_fits n es)
  where
    go : (b : Bool) → named n es ≤ n → pick b (suc (named n es)) (named n es) ≤ suc n
    go true h = omega arith
    go false h = omega arith

allowed-steps : (j : ℕ) (k : Keeper) → Allowed (Unit {0}) (replicate j (call RecoveryStep)) k
allowed-steps zero k = tt
allowed-steps (suc j) k = (tt, allowed-steps j (happen (call RecoveryStep) k).keeper)

-- THE MEDIUM OF A HISTORY

module _ (n c : ℕ) (k : Keeper) (es : List Event) (h : History n c k es) where
  abbrev m : List ℕ
  m = (reached n c k es).medium

  rest : Rest n c m (transactions n c k es)
  rest = resting n c (reached n c k es) (transactions n c k es) (safe n c k es h)

  -- workspaces of zeros, as the head says
  abbrev zeros : List ℕ
  zeros = replicate (number_at 4 0 m) 0

  abbrev rows : List ℕ
  rows = replicate (32 * number_at 4 4 m) 0

  abbrev zeroed : Keeper
  zeroed = stateless m zeros zeros zeros rows

  sized : Sized n c zeroed
  unfolding stateless
  sized =
      let N = n≡ n c rest.h rest.J m rest.there in
      let C = c≡ n c rest.h rest.J m rest.there in
      let z = length-replicate {A = ℕ} (number_at 4 0 m) 0 ∙ N in
      (z, z, z, length-replicate {A = ℕ} (32 * number_at 4 4 m) 0 ∙ ap (λ x. 32 * x) C)

  -- its head, before recovery
  pub history_head : (is_head_ok m ≡ true) × (number_at 4 0 m ≡ n)
  history_head = (head_ok n c rest.h rest.J m rest.there, n≡ n c rest.h rest.J m rest.there)

  pub recovered-accepted : (started m).answer ≡ done 0
  unfolding started stateless act
  recovered-accepted = (start_never_refused n c k es h zeroed refl sized).0

  -- what a keeper's medium holds after recovery
  abbrev pub Afresh : Keeper → Type 0
  Afresh e =
      (table_of n c e.medium ≡ wanted n c k es) × (is_head_ok e.medium ≡ true) × (number_at 4 0 e.medium ≡ n) × (number_at 4 4 e.medium ≡ c)

  -- j steps after the start, and the one that ends recovery
  module _ (j : ℕ) where
    abbrev last : Keeper
    last = after (call RecoveryStart ∷ replicate j (call RecoveryStep)) zeroed

    recovered-last : j ≤ named n (stored_journal n c m) → ended (act RecoveryStep last).answer ≡ true → recovered m ≡ (act RecoveryStep last).keeper
    unfolding recovered started stateless after happen act
    recovered-last p e =
        let N = n≡ n c rest.h rest.J m rest.there in
        steps-ended j (number_at 4 0 m + 1) (started m).keeper (omega (arith, named_fits n (stored_journal n c m))) e

    last-head : (is_head_ok (act RecoveryStep last).keeper.medium ≡ true) × (number_at 4 0 (act RecoveryStep last).keeper.medium ≡ n) × (number_at 4 4 (act RecoveryStep last).keeper.medium ≡ c)
    unfolding stateless after happen
    last-head =
        let s = always n c (power_loss zeros zeros zeros rows ∷ call RecoveryStart ∷ replicate j (call RecoveryStep)) (reached n c k es) (transactions n c k es) (tt, (tt, allowed-steps j _)) (safe n c k es h) in
        let r = resting n c _ _ (always n c (call RecoveryStep ∷ []) last _ (tt, tt) s) in
        (head_ok n c r.h r.J _ r.there, n≡ n c r.h r.J _ r.there, c≡ n c r.h r.J _ r.there)

  pub recovered-afresh : Afresh (recovered m)
  unfolding stateless
  recovered-afresh = go (ends_soon n c k es h zeroed refl sized)
    where
      go : ((j : ℕ) × (j ≤ named n (stored_journal n c m)) × ((ended (act RecoveryStep (last j)).answer ≡ true) × (table_of n c (act RecoveryStep (last j)).keeper.medium ≡ wanted n c k es)))
          → Afresh (recovered m)
      go (j, p, (e, q)) =
          let r = recovered-last j p e in
          let d = last-head j in
          subst Afresh (sym r) (q, d.0, d.1, d.2)

  -- a keeper whose recovery ends by this step leaves such a medium too
  pub ended-afresh : ended (act RecoveryStep (reached n c k es)).answer ≡ true → Afresh (act RecoveryStep (reached n c k es)).keeper
  unfolding after happen
  ended-afresh e =
      let r = resting n c _ _ (always n c (call RecoveryStep ∷ []) (reached n c k es) (transactions n c k es) (tt, tt) (safe n c k es h)) in
      (ends_afresh n c k es h e, head_ok n c r.h r.J _ r.there, n≡ n c r.h r.J _ r.there, c≡ n c r.h r.J _ r.there)
