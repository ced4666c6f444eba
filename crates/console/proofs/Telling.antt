-- What a call tells of rows doesn't depend on a buffer that it is not lent.
use Prim.Native.Nat.{ℕ}
use mathlib.Core.Path.{◌≡◌, refl, sym, ap, ◌∙◌}
use mathlib.Core.Bool.{◌||◌}
use lib.Dec.{eqb}
use Rattle.scope.specs.Bytes.{pick}
use Rattle.scope.specs.Row.{faultless}
use Rattle.scope.specs.Keeper.{Keeper, State, Outcome, refusal_of, waiting_row, medium_row, with_state, with_medium, with_waiting}
use Rattle.scope.specs.Refusals.{Call, Format, RecoveryStart, RecoveryStep, Begin, Commit, Abort, Force, TableView, Read, WriteBack, Cut, Look, Write, lent, lent_start, unfit, tests, refusal, open_fault, waiting_fault, bad_row, told}
use Rattle.scope.specs.Calls.{performed}
use Rattle.scope.proofs.Callers.{refusal-answered}
use Rattle.scope.proofs.Frames.{onto, frame}

same-refusal : (a : Call) (g k : Keeper) → refusal a (onto a g k) ≡ refusal a k
same-refusal a g k = sym (refusal-answered a (onto a g k)) ∙ ap (λ (o : Outcome). refusal_of o.answer) (frame a g k) ∙ refusal-answered a k

tells_by : (a : Call) (g k : Keeper) → refusal a (onto a g k) ≡ refusal a k → bad_row a (onto a g k) ≡ bad_row a k → told a (onto a g k) ≡ told a k
unfolding told
tells_by a g k e b =
    ap (λ (n : ℕ). pick (eqb n 2 || eqb n 7) (bad_row a (onto a g k)) faultless) e ∙ ap (λ f. pick (eqb (refusal a k) 2 || eqb (refusal a k) 7) f faultless) b

-- ONE LAW FOR ALL CALLS
pub tells_frame : (a : Call) (g k : Keeper) → told a (onto a g k) ≡ told a k
unfolding refusal tests unfit lent bad_row open_fault waiting_fault performed waiting_row medium_row with_medium with_waiting
tells_frame (Format n c) g k = tells_by (Format n c) g k refl refl
tells_frame RecoveryStart g k = refl
tells_frame RecoveryStep g k = tells_by RecoveryStep g k refl refl
tells_frame Begin g k = tells_by Begin g k (same-refusal Begin g k) refl
tells_frame Commit g k = tells_by Commit g k (same-refusal Commit g k) refl
tells_frame Abort g k = tells_by Abort g k (same-refusal Abort g k) refl
tells_frame Force g k = tells_by Force g k refl refl
tells_frame TableView g k = tells_by TableView g k refl refl
tells_frame (Read c) g k = tells_by (Read c) g k refl refl
tells_frame (WriteBack c) g k = tells_by (WriteBack c) g k refl refl
tells_frame (Cut p) g k = tells_by (Cut p) g k refl refl
tells_frame (Look n) g k = tells_by (Look n) g k refl refl
tells_frame (Write c v) g k = tells_by (Write c v) g k refl refl

-- recovery start takes no state
pub start_tells : (s : State) (k : Keeper) → told RecoveryStart (with_state s k) ≡ told RecoveryStart k
unfolding told bad_row refusal tests lent_start with_state
start_tells s k = refl
