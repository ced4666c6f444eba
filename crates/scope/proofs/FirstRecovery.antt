-- Before the first recovery has ended no transaction counts, whatever is called: the keeper has no state or is recovering, and then every call that could
-- begin, end or store one is refused. By induction over the events.
use Prim.Native.Nat.{ℕ, zero, suc, ◌+◌}
use mathlib.Core.Path.{◌≡◌, refl, sym, ap, ◌∙◌, subst}
use mathlib.Core.Bool.{Bool, true, false, false≢true}
use mathlib.Core.Logic.{◌⊎◌, inl, inr, ◌≢◌}
use mathlib.Core.List.{List, [], ◌∷◌}
use mathlib.Core.Option.{Option, none, some}
use native.Mathlib.Omega.{arith}
use lib.Dec.{ltb}
use lib.ListN.{replicate}
use Rattle.scope.specs.Bytes.{pick}
use Rattle.scope.specs.Keeper.{recovering, State, Keeper, Answer, done, head, clean, Outcome, refusal_of, no_state, is_recovering, in_range, sound, with_state, with_medium, store_cell}
use Rattle.scope.specs.Refusals.{Call, Format, RecoveryStart, RecoveryStep, Begin, Commit, Abort, Force, TableView, Read, WriteBack, Cut, Look, Write, unfit, tests, refusal}
use Rattle.scope.specs.Calls.{commit_made, step_at, performed, unchanged, unless, act}
use Rattle.scope.specs.History.{Event, call, appends, power_loss, happen, answers, allowed, Allowed, formatted, Transactions, nothing_yet, tell, story, afresh}
use Rattle.scope.specs.Demands.{ended, NoneEnded, FirstRecovery}
use Rattle.scope.proofs.Refusals.{First, first-refusal, Either, call_cases, declined_refused}
use Rattle.scope.proofs.Callers.{refused-unchanged}

Shut : State → Type 0
Shut s = (s ≡ no_state) ⊎ (s.phase ≡ recovering)

-- the calls that take part in transactions: all but format, recovery and table view
abbrev takes_part : Call → Type 0
takes_part (Format n c) = ⊥
takes_part RecoveryStart = ⊥
takes_part RecoveryStep = ⊥
takes_part Begin = Unit {0}
takes_part Commit = Unit {0}
takes_part Abort = Unit {0}
takes_part Force = Unit {0}
takes_part TableView = ⊥
takes_part (Read c) = Unit {0}
takes_part (WriteBack c) = Unit {0}
takes_part (Cut p) = Unit {0}
takes_part (Look n) = Unit {0}
takes_part (Write c v) = Unit {0}

stateless-unfit : (a : Call) (k : Keeper) → k.state ≡ no_state → unfit a k ≡ true
unfolding unfit sound in_range no_state
stateless-unfit a k e = rw e

-- the two tests that every such call has first
first_two : (a : Call) → takes_part a → (k : Keeper) (n : ℕ) → ((unfit a k ≡ true) × (1 ≡ n)) ⊎ ((unfit a k ≡ false) × (is_recovering k.state.phase ≡ true) × (10 ≡ n)) → First n (tests a k)
unfolding tests
first_two (Format m c) x k n q = absurd x
first_two RecoveryStart x k n q = absurd x
first_two RecoveryStep x k n q = absurd x
first_two Begin x k n (inl q) = inl q
first_two Begin x k n (inr q) = inr (q.0, inl (q.1, q.2))
first_two Commit x k n (inl q) = inl q
first_two Commit x k n (inr q) = inr (q.0, inl (q.1, q.2))
first_two Abort x k n (inl q) = inl q
first_two Abort x k n (inr q) = inr (q.0, inl (q.1, q.2))
first_two Force x k n (inl q) = inl q
first_two Force x k n (inr q) = inr (q.0, inl (q.1, q.2))
first_two TableView x k n q = absurd x
first_two (Read c) x k n (inl q) = inl q
first_two (Read c) x k n (inr q) = inr (q.0, inl (q.1, q.2))
first_two (WriteBack c) x k n (inl q) = inl q
first_two (WriteBack c) x k n (inr q) = inr (q.0, inl (q.1, q.2))
first_two (Cut p) x k n (inl q) = inl q
first_two (Cut p) x k n (inr q) = inr (q.0, inl (q.1, q.2))
first_two (Look i) x k n (inl q) = inl q
first_two (Look i) x k n (inr q) = inr (q.0, inl (q.1, q.2))
first_two (Write c v) x k n (inl q) = inl q
first_two (Write c v) x k n (inr q) = inr (q.0, inl (q.1, q.2))

-- refused, with 1 or 10
shut_refused : (a : Call) → takes_part a → (k : Keeper) → Shut k.state → (n : ℕ) × (refusal a k ≡ suc n)
unfolding Shut
shut_refused a x k (inl e) = (0, first-refusal a k 1 (first_two a x k 1 (inl (stateless-unfit a k e, refl))))
shut_refused a x k (inr e) = go (unfit a k) refl
  where
    go : (b : Bool) → unfit a k ≡ b → (n : ℕ) × (refusal a k ≡ suc n)
    go true q = (0, first-refusal a k 1 (first_two a x k 1 (inl (q, refl))))
    go false q = (9, first-refusal a k 10 (first_two a x k 10 (inr (q, ap is_recovering e, refl))))

-- a step that does not end recovery
step_stays : (k : Keeper) (o : Option ℕ) → k.state.phase ≡ recovering → ended (step_at o k).answer ≡ false → Shut (step_at o k).keeper.state
unfolding step_at store_cell with_medium Shut
step_stays k (some c) p e = inr p
step_stays k none p e = absurd (never (ltb k.state.h k.state.l) _ _ e)
  where
    never : (b : Bool) (x y : Keeper) → ended (pick {A = Outcome} b (record { answer = head; keeper = x }) (record { answer = clean; keeper = y })).answer ≡ false → ⊥
    never true x y e = false≢true (sym e)
    never false x y e = false≢true (sym e)

step_shut : (k : Keeper) → Shut k.state → ended (act RecoveryStep k).answer ≡ false → Shut (act RecoveryStep k).keeper.state
unfolding tests performed Shut
step_shut k (inl q) e =
    subst (λ (o : Outcome). Shut o.keeper.state)
    (sym (refused-unchanged RecoveryStep k 0 (first-refusal RecoveryStep k 1 (inl (stateless-unfit RecoveryStep k q, refl))))) (inl q)
step_shut k (inr p) e = go (call_cases RecoveryStep k)
  where
    go : Either RecoveryStep k (act RecoveryStep k) (performed RecoveryStep k) → Shut (act RecoveryStep k).keeper.state
    go (inl q) = subst (λ (o : Outcome). Shut o.keeper.state) (sym q.1) (inr p)
    go (inr q) =
        subst (λ (o : Outcome). Shut o.keeper.state) (sym q.1)
        (unfold performed in step_stays k _ p (subst (λ (o : Outcome). ended o.answer ≡ false) q.1 e))

start_shut : (k : Keeper) → Shut (act RecoveryStart k).keeper.state
unfolding act performed
start_shut k = go (refusal RecoveryStart k)
  where
    go : (i : ℕ) → Shut (unless i (performed RecoveryStart k) (unchanged RecoveryStart k)).keeper.state
    go zero = unfold performed Shut in inr refl
    go (suc i) = unfold with_state Shut in inl refl

view_shut : (k : Keeper) → Shut k.state → Shut (act TableView k).keeper.state
unfolding act performed
view_shut k s = go (refusal TableView k)
  where
    go : (i : ℕ) → Shut (unless i (performed TableView k) (unchanged TableView k)).keeper.state
    go zero = unfold performed in s
    go (suc i) = s

-- one event
refused-story : (a : Call) → takes_part a → (r : Answer) (n : ℕ) → refusal_of r ≡ suc n → tell (call a) r nothing_yet ≡ nothing_yet
refused-story (Format m c) x r n e = absurd x
refused-story RecoveryStart x r n e = absurd x
refused-story RecoveryStep x r n e = absurd x
refused-story Begin x r n e = rw e
refused-story Commit x r n e = rw e
refused-story Abort x r n e = rw e
refused-story Force x r n e = rw e
refused-story TableView x r n e = absurd x
refused-story (Read c) x r n e = refl
refused-story (WriteBack c) x r n e = refl
refused-story (Cut p) x r n e = refl
refused-story (Look i) x r n e = refl
refused-story (Write c v) x r n e = rw e

Still : Event → Keeper → Type 0
Still e k = (tell e (happen e k).answer nothing_yet ≡ nothing_yet) × Shut (happen e k).keeper.state

part_still : (a : Call) → takes_part a → (k : Keeper) → Shut k.state → unchanged a k ≡ k → Still (call a) k
unfolding Still happen
part_still a x k s u =
    let q = shut_refused a x k s in let r = refused-unchanged a k q.0 q.1 in (
      refused-story a x (act a k).answer q.0 (ap (λ (o : Outcome). refusal_of o.answer) r),
      subst (λ (o : Outcome). Shut o.keeper.state) (sym r) (subst (λ (g : Keeper). Shut g.state) (sym u) s),
    )

-- commit's first step has commit's own tests
appends_still : (k : Keeper) → Shut k.state → Still appends k
unfolding Still happen
appends_still k s =
    let q = shut_refused Commit tt k s in let r = ap (λ n. unless n (record { answer = done (k.state.l + 1); keeper = commit_made k }) k) q.1 in
    (rw (ap (λ (o : Outcome). refusal_of o.answer) r), subst (λ (o : Outcome). Shut o.keeper.state) (sym r) s)

format_still : (n c : ℕ) (k : Keeper) → Shut k.state → refusal_of (act (Format n c) k).answer ≢ 0 → Still (call (Format n c)) k
unfolding Still happen performed
format_still n c k s d =
    let q = declined_refused (Format n c) k refl d in
    (rw (ap (λ (o : Outcome). refusal_of o.answer) q.1), subst (λ (o : Outcome). Shut o.keeper.state) (sym q.1) s)

still : (e : Event) (k : Keeper) → Shut k.state → allowed (Unit {0}) e (happen e k).answer → ended (happen e k).answer ≡ false → Still e k
unfolding Still happen Shut
still (call (Format n c)) k s a e = format_still n c k s a
still (call RecoveryStart) k s a e = (refl, start_shut k)
still (call RecoveryStep) k s a e = (refl, step_shut k s e)
still (call Begin) k s a e = part_still Begin tt k s refl
still (call Commit) k s a e = part_still Commit tt k s refl
still (call Abort) k s a e = part_still Abort tt k s refl
still (call Force) k s a e = part_still Force tt k s refl
still (call TableView) k s a e = (refl, view_shut k s)
still (call (Read c)) k s a e = part_still (Read c) tt k s refl
still (call (WriteBack c)) k s a e = part_still (WriteBack c) tt k s refl
still (call (Cut p)) k s a e = part_still (Cut p) tt k s refl
still (call (Look n)) k s a e = part_still (Look n) tt k s refl
still (call (Write c v)) k s a e = part_still (Write c v) tt k s refl
still appends k s a e = appends_still k s
still (power_loss c f l w) k s a e = (refl, inl refl)

-- all events
stills : (es : List Event) (k : Keeper) → Shut k.state → Allowed (Unit {0}) es k → NoneEnded (answers es k) → story es (answers es k) nothing_yet ≡ nothing_yet
unfolding answers Still
stills [] k s a e = refl
stills (x ∷ es) k s a e =
    let q = still x k s a.0 e.0 in
    ap (story es (answers es (happen x k).keeper)) q.0 ∙ stills es (happen x k).keeper q.1 a.1 e.1

format_shut : (n c : ℕ) (k : Keeper) → (act (Format n c) k).answer ≡ done 0 → Shut (formatted n c k).state
unfolding act performed
format_shut n c k e = go (refusal (Format n c) k) e
  where
    go : (i : ℕ) → (unless i (performed (Format n c) k) k).answer ≡ done 0 → Shut (unless i (performed (Format n c) k) k).keeper.state
    go zero e = unfold performed with_state Shut in inl refl
    go (suc i) e = let z : suc i ≡ 0 = ap refusal_of e in absurd (omega arith)

pub nothing_counts : FirstRecovery
nothing_counts n c k es h e =
    ap (λ (t : Transactions). afresh t.stored (replicate n 0)) (stills es (formatted n c k) (format_shut n c k h.0) h.1 e)
