-- What each call changes of the state: the slice has the rest already. By the calls' definitions, refused or done.
use Prim.Native.Nat.{ℕ, zero, suc, ◌+◌, ◌-◌}
use mathlib.Core.Path.{◌≡◌, refl, sym, ap, ◌∙◌}
use mathlib.Core.Bool.{Bool, true, false}
use mathlib.Core.List.{List}
use lib.Dec.{ltb}
use Rattle.scope.specs.Bytes.{pick}
use Rattle.scope.specs.Keeper.{State, Keeper, Answer, Outcome, is_run, with_state, with_medium, made_to, stored_next, dropped_to}
use Rattle.scope.specs.Refusals.{Call, Begin, Write, Commit, Abort, Force, Cut, refusal}
use Rattle.scope.specs.Calls.{rolled_back, commit_made, forced, forced_by, performed, unless, act}
use Rattle.state.specs.State.{state_of}
use Rattle.state.specs.Lent.{lent_to}
use Rattle.keeper.specs.Answers.{handed, leaves}
use Rattle.keeper.specs.declared.State as code
use Rattle.boundary.specs.Held.{made, stored, committed, dropped, HasRest}
use Rattle.boundary.proofs.SevenNumbers.{Holds}

-- a state is another but for what changed, and a call leaves the one before it so
abbrev But : (State → State → State) → State → State → Type 0
But changed t s = t ≡ changed t s

abbrev pub Changes : (State → State → State) → Call → Type 0
Changes changed a = (k : Keeper) → But changed (act a k).keeper.state k.state

unless_changes : (changed : State → State → State) (x : ℕ) (o : Outcome) (k : Keeper) → But changed k.state k.state
    → But changed o.keeper.state k.state → But changed (unless x o k).keeper.state k.state
unless_changes changed zero o k r e = e
unless_changes changed (suc x) o k r e = r

either : {A : Type 0} (changed : State → State → State) (of : A → State) (b : Bool) (x y : A) (s : State)
    → But changed (of x) s → But changed (of y) s → But changed (of (pick b x y)) s
either changed of true x y s p q = p
either changed of false x y s p q = q

pub write_makes : (cell value : ℕ) → Changes made (Write cell value)
unfolding act performed with_state made_to
write_makes cell value k = unless_changes made (refusal (Write cell value) k) (performed (Write cell value) k) k refl refl

pub begin_makes : Changes made Begin
unfolding act performed rolled_back with_state made_to
begin_makes k =
    unless_changes made (refusal Begin k) (performed Begin k) k refl
    (either made (λ (x : Keeper). x.state) (is_run k.state.phase) _ _ k.state refl refl)

pub abort_makes : Changes made Abort
unfolding act performed rolled_back with_state made_to
abort_makes k =
    unless_changes made (refusal Abort k) (performed Abort k) k refl
    (either made (λ (x : Keeper). x.state) (is_run k.state.phase) _ k k.state refl refl)

pub force_stores : Changes stored Force
unfolding act performed forced with_state with_medium stored_next
force_stores k =
    unless_changes stored (refusal Force k) (performed Force k) k refl
    (either stored (λ (x : Outcome). x.keeper.state) (ltb k.state.f k.state.l) _ _ k.state refl refl)

-- force's steps, however many, change no more than a commit does
by_stores : (count : ℕ) (k : Keeper) → But committed (forced_by count k).state k.state
unfolding forced_by forced with_state with_medium stored_next made_to
by_stores zero k = refl
by_stores (suc count) k = by_stores count (forced k)

pub commit_changes : Changes committed Commit
unfolding act performed commit_made with_state made_to
commit_changes k = unless_changes committed (refusal Commit k) (performed Commit k) k refl (by_stores (k.state.l + 1 - k.state.f) (commit_made k))

pub cut_drops : (p : ℕ) → Changes dropped (Cut p)
unfolding act performed with_state dropped_to
cut_drops p k = unless_changes dropped (refusal (Cut p) k) (performed (Cut p) k) k refl refl

module _ (xs m c f l w : List ℕ) (which : Call) (changed : State → State → State) (changes : Changes changed which) (s next : code.State)
    (held : Holds xs (state_of s.numbers s.phase)) where
  pub has_rest : (a : Answer) (m2 c2 f2 l2 w2 : List ℕ) → leaves a next m2 c2 f2 l2 w2 ≡ act which (handed s m c f l w)
      → HasRest changed xs (state_of next.numbers next.phase)
  unfolding leaves handed lent_to
  has_rest a m2 c2 f2 l2 w2 d =
      let e = ap (λ (o : Outcome). o.keeper.state) d in
      record { is_state = held.is_state; rest = e ∙ changes (handed s m c f l w) ∙ (λ i. changed (sym e i) (held.read i)) }
