-- Bringing the bytes at the place of a call's answer gives the medium after the call. By the call's refusals, and then by what it stores.
use Prim.Native.Nat.{ℕ, zero, suc, ◌+◌, ◌*◌, ◌-◌, ◌%◌, ◌≤◌, ◌<◌}
use mathlib.Core.Path.{◌≡◌, refl, sym, ap, subst, ◌∙◌}
use mathlib.Core.Bool.{Bool, true, false, ◌&&◌}
use mathlib.Core.List.{List}
use mathlib.Core.Option.{Option as Maybe, none, some}
use native.Mathlib.Nat.{mod-lt, zero-add}
use native.Mathlib.Omega.{arith}
use borrow.Author.Tests.{eqb-true, leb-false, lt-ltb}
use lib.Dec.{ltb}
use Rattle.std.specs.Prelude.{Option, Some, None}
use lib.ListN.{length, take, drop, get_or}
use Rattle.scope.specs.Bytes.{pick, bytes_of, put}
use Rattle.scope.specs.Keeper.{Keeper, Outcome, done, refused, head, clean, stored, idle, value_of, medium_length, row_at, cell_at, waiting_row, head_bytes, with_state, with_medium, made_to, dropped_to, store_cell, store_head}
use Rattle.scope.specs.Recovery.{table_of, differing}
use Rattle.scope.specs.Refusals.{Call, RecoveryStart, RecoveryStep, Begin, Abort, Force, Read, WriteBack, Cut, Write, is_medium, is_rows, lent, unfit, tests, refusal}
use Rattle.scope.specs.Calls.{forced, unless, step_at, cleaned, act, performed, unchanged}
use Rattle.scope.proofs.Bytes.{put_same, length-row, length_bytes_of}
use Rattle.scope.proofs.Refusals.{refusal-none}
use Rattle.scope.proofs.Represents.{and_true}
use Rattle.scope.proofs.TableCells.{length_table}
use Rattle.scope.proofs.StepCall.{differing-some}
use Rattle.scope.proofs.HeadStores.{head#}
use Rattle.scope.proofs.Sound.{Sound, sound_facts, fit_sound, fit_lent}
use Rattle.scope.proofs.Frames.{frame}
use Rattle.console.specs.declared.Place.{Place}
use Rattle.console.specs.Made.{head_place, cell_place, force_place, back_place, step_place, place_of, part_brought}

abbrev pub Brings : Option Place → Keeper → Outcome → Type 0
Brings p k o = o.keeper.medium ≡ part_brought p o.keeper.medium k.medium

-- a store of n bytes is brought by the n bytes at its place
part-put : (m v : List ℕ) (at n : ℕ) → length v ≡ n → at + n ≤ length m → put m at v ≡ put m at (take n (drop at (put m at v)))
part-put m v at n e h =
    subst (λ (i : ℕ). put m at v ≡ put m at (take i (drop at (put m at v)))) e
    (ap (put m at) (sym (put_same m v at (omega arith))))

-- calls that store nothing
pub brings_begin : (k : Keeper) → Brings None k (act Begin k)
unfolding with_medium
brings_begin k = ap (λ (o : Outcome). o.keeper.medium) (frame Begin k k)

pub brings_abort : (k : Keeper) → Brings None k (act Abort k)
unfolding with_medium
brings_abort k = ap (λ (o : Outcome). o.keeper.medium) (frame Abort k k)

pub brings_write : (c v : ℕ) (k : Keeper) → Brings None k (act (Write c v) k)
unfolding with_medium
brings_write c v k = ap (λ (o : Outcome). o.keeper.medium) (frame (Write c v) k k)

pub brings_read : (c : ℕ) (k : Keeper) → Brings None k (act (Read c) k)
brings_read c k = ap (λ (o : Outcome). o.keeper.medium) (frame (Read c) k k)

pub brings_start : (k : Keeper) → Brings None k (act RecoveryStart k)
unfolding act
brings_start k = go (refusal RecoveryStart k)
  where
    go : (i : ℕ) → (unless i (performed RecoveryStart k) (unchanged RecoveryStart k)).keeper.medium ≡ k.medium
    go zero = unfold performed in refl
    go (suc i) = unfold with_state in refl

-- calls that store: refused, or with the lengths that the state says
module _ (k : Keeper) where
  abbrev N : ℕ
  N = k.state.cells

  abbrev C : ℕ
  C = k.state.slots

  unless-brings : (a : Call) (o : Outcome) → ((n : ℕ) → place_of a C (refused n) ≡ None)
      → (refusal a k ≡ 0 → Brings (place_of a C o.answer) k o)
      → Brings (place_of a C (unless (refusal a k) o k).answer) k (unless (refusal a k) o k)
  unless-brings a o z f = go (refusal a k) f
    where
      go : (n : ℕ) → (n ≡ 0 → Brings (place_of a C o.answer) k o) → Brings (place_of a C (unless n o k).answer) k (unless n o k)
      go zero g = g refl
      go (suc n) g = subst (λ (p : Option Place). k.medium ≡ part_brought p k.medium k.medium) (sym (z (suc n))) refl

  some-slots : (a : Call) → unfit a k ≡ false → 0 < C
  some-slots a e = let S : Sound k.state = sound_facts k.state (fit_sound a k e) in omega (arith, S.slots≥)

  head_fits : (m : ℕ) → m ≡ medium_length N C → 0 + 32 ≤ m
  unfolding medium_length
  head_fits m e = omega arith

  row_fits : (m n : ℕ) → 0 < C → m ≡ medium_length N C → 32 + row_at C n + 32 ≤ m
  unfolding medium_length row_at
  row_fits m n p e = let low : (n - 1) % C < C = mod-lt (n - 1) p in omega arith

  cell_fits : (m c : ℕ) → c < N → m ≡ medium_length N C → cell_at C c + 8 ≤ m
  unfolding medium_length cell_at
  cell_fits m c h e = omega arith

  row-length : (n : ℕ) → 0 < C → length k.waiting ≡ 32 * C → length (waiting_row k n) ≡ 32
  unfolding waiting_row row_at
  row-length n p e = simp zero-add at (length-row 0 C (n - 1) k.waiting p (omega arith))

  head-put : (p : ℕ) → length k.medium ≡ medium_length N C → Brings (Some head_place) k (record { answer = head; keeper = store_head p k })
  unfolding store_head with_medium head_bytes
  head-put p e = part-put k.medium (head_bytes N C p) 0 32 (head# N C p) (head_fits _ e)

  cell-put : (c : ℕ) → c < N → length k.medium ≡ medium_length N C → Brings (Some (cell_place C c)) k (record { answer = stored; keeper = store_cell c k })
  unfolding store_cell with_medium
  cell-put c h e = part-put k.medium (bytes_of 8 (get_or k.current c 0)) (cell_at C c) 8 (length_bytes_of 8 _) (cell_fits _ c h e)

  medium-lent : (a : Call) (rest : Bool) → lent a k ≡ (is_medium k && rest) → unfit a k ≡ false → length k.medium ≡ medium_length N C
  medium-lent a rest q e = eqb-true _ _ (and_true (is_medium k) rest (sym q ∙ fit_lent a k e)).0

  pub brings-cut : (p : ℕ) → Brings (place_of (Cut p) C (act (Cut p) k).answer) k (act (Cut p) k)
  unfolding act performed with_state tests lent
  brings-cut p =
      unless-brings (Cut p) _ (λ n. refl)
      (λ e. head-put p (medium-lent (Cut p) _ refl (refusal-none (Cut p) k e).0))

  backs : ℕ → Bool → Outcome
  backs c b = pick b (record { answer = stored; keeper = cleaned c (store_cell c k) }) (record { answer = clean; keeper = k })

  pub brings_back : (c : ℕ) → Brings (place_of (WriteBack c) C (act (WriteBack c) k).answer) k (act (WriteBack c) k)
  unfolding act performed backs cleaned tests lent
  brings_back c = unless-brings (WriteBack c) (backs c (ltb 0 (get_or k.first c 0))) (λ n. refl) (λ e. go e (ltb 0 (get_or k.first c 0)))
    where
      go : refusal (WriteBack c) k ≡ 0 → (b : Bool) → Brings (back_place C c (backs c b).answer) k (backs c b)
      go e true =
          let t = refusal-none (WriteBack c) k e in
          cell-put c (leb-false N c t.1.1.0) (medium-lent (WriteBack c) _ refl t.0)
      go e false = refl

  forces : Bool → Outcome
  forces b =
      pick b
      (record { answer = done (k.state.f + 1); keeper = forced k })
      (record { answer = done 0; keeper = k })

  pub brings_force : Brings (place_of Force C (act Force k).answer) k (act Force k)
  unfolding act performed forces forced tests lent with_state with_medium
  brings_force = unless-brings Force (forces (ltb k.state.f k.state.l)) (λ n. refl) (λ e. go (refusal-none Force k e).0 (ltb k.state.f k.state.l))
    where
      go : unfit Force k ≡ false → (b : Bool) → Brings (force_place C (forces b).answer) k (forces b)
      go u false = refl
      go u true =
          let n = k.state.f + 1 in let p : 0 < C = some-slots Force u in
          let w = and_true (is_medium k) (is_rows k) (fit_lent Force k u) in
          rw (lt-ltb 0 n (omega arith))
          (part-put k.medium (waiting_row k n) (32 + row_at C n) 32 (row-length n p (eqb-true _ _ w.1)) (row_fits _ n p (eqb-true _ _ w.0)))

  ends : Bool → Outcome
  ends b =
      pick b
      (record { answer = head; keeper = with_state (dropped_to k.state.l idle k.state) (store_head k.state.l k) })
      (record { answer = clean; keeper = with_state (made_to k.state.l k.state.o idle k.state) k })

  pub brings_step : Brings (place_of RecoveryStep C (act RecoveryStep k).answer) k (act RecoveryStep k)
  unfolding act performed tests lent
  brings_step =
      unless-brings RecoveryStep _ (λ n. refl)
      (λ e. go (medium-lent RecoveryStep _ refl (refusal-none RecoveryStep k e).0) (differing (table_of N C k.medium) k.current 0) refl)
    where
      at-end : length k.medium ≡ medium_length N C → (b : Bool) → Brings (step_place C (ends b).answer) k (ends b)
      at-end h true = unfold ends with_state in head-put k.state.l h
      at-end h false = unfold ends with_state in refl

      go : length k.medium ≡ medium_length N C → (o : Maybe ℕ) → differing (table_of N C k.medium) k.current 0 ≡ o
          → Brings (step_place C (step_at o k).answer) k (step_at o k)
      go h (some c) e =
          unfold step_at in
          cell-put c (omega (arith, (differing-some _ k.current 0 c e).1, length_table N C k.medium)) h
      go h none e = unfold step_at ends in at-end h (ltb k.state.h k.state.l)

-- an entry that force answers has a row
pub force_slots : (k : Keeper) → 0 < value_of (act Force k).answer → 0 < k.state.slots
unfolding act performed forces tests
force_slots k h = go (refusal Force k) refl h
  where
    go : (n : ℕ) → refusal Force k ≡ n → 0 < value_of (unless n (forces k (ltb k.state.f k.state.l)) k).answer → 0 < k.state.slots
    go zero e h = some-slots k Force (refusal-none Force k e).0
    go (suc n) e h = absurd (omega arith)
