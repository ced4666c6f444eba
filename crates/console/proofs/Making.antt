-- The call that was made is the papers' call: what it leaves of the buffers that it is lent, framed by those that it isn't, and what is said of
-- its outcome.
use Prim.Native.Nat.{ℕ, ◌<◌}
use mathlib.Core.Path.{◌≡◌, sym, ap, subst, ◌∙◌}
use mathlib.Core.List.{List, []}
use Rattle.std.specs.Prelude.{Option, None}
use Rattle.scope.specs.Row.{Fault}
use Rattle.scope.specs.Keeper.{Keeper, Answer, Outcome, value_of, with_state, with_medium, with_waiting}
use Rattle.scope.specs.Refusals.{Call, RecoveryStart, RecoveryStep, Begin, Commit, Abort, Force, Read, WriteBack, Cut, Write, told}
use Rattle.scope.specs.Calls.{act}
use Rattle.scope.proofs.Frames.{onto, passed, frame, start_any_state}
use Rattle.answer.specs.Answer.{told_in}
use Rattle.state.specs.State.{state_of}
use Rattle.state.specs.Lent.{lent_to, stateless}
use Rattle.keeper.specs.Answers.{answer_of, handed, leaves}
use Rattle.keeper.specs.declared.State.{State}
use Rattle.keeper.specs.declared.Outcome as code
use Rattle.console.specs.declared.Place.{Place}
use Rattle.console.specs.declared.Did.{Did}
use Rattle.console.specs.Made.{place_of, Says, brought, Made}
use Rattle.console.proofs.Brings.{brings_begin, brings_abort, brings_write, brings_read, brings_start, brings-cut, brings_back, brings_force, brings_step, force_slots}
use Rattle.console.proofs.CommitRows.{brings_commit}
use Rattle.console.proofs.Telling.{tells_frame, start_tells}

-- and only a state with rows has an entry to store
pub force_fits : (s next : State) (m w m2 w2 : List ℕ) (x : Answer) → leaves x next m2 [] [] [] w2 ≡ act Force (handed s m [] [] [] w) → 0 < value_of x
    → 0 < s.numbers.slots
unfolding act handed leaves lent_to state_of
force_fits s next m w m2 w2 x e h = force_slots (handed s m [] [] [] w) (subst (λ (o : Outcome). 0 < value_of o.answer) e h)

-- what the keeper's method ensures: of what it leaves, and of what it tells
abbrev pub Ensured : Call → Keeper → Outcome → Fault → Type 0
Ensured a k o t = (o ≡ act a k) × (t ≡ told a k)

-- a call on what it is lent, framed by the rest
framed : (a : Call) (g k : Keeper) (o : Outcome) (t : Fault) → Ensured a k o t → Ensured a (onto a g k) (passed a g o) t
framed a g k o t e = (ap (passed a g) e.0 ∙ sym (frame a g k), e.1 ∙ sym (tells_frame a g k))

module _ {T : Type 0} (g : T → Answer) (out : code.Outcome T) (d : Did) (s : State) where
  abbrev x : Answer
  x = answer_of g out.answer

  abbrev t : Fault
  t = told_in out.answer

  -- the medium after the call is brought from itself
  made : (a : Call) (m c f l w m2 c2 f2 l2 w2 : List ℕ) → (let k = handed s m c f l w in let o = act a k in
      o.keeper.medium ≡ brought a k o.answer (place_of a s.numbers.slots o.answer) o.keeper.medium)
      → Ensured a (handed s m c f l w) (leaves x out.state m2 c2 f2 l2 w2) t → Says g out (place_of a s.numbers.slots x) d
      → Made a (handed s m c f l w) d (handed d.state m2 c2 f2 l2 w2)
  unfolding handed leaves lent_to state_of
  made a m c f l w m2 c2 f2 l2 w2 b e r =
      let k = handed s m c f l w in let p = r.place ∙ ap (λ (o : Outcome). place_of a s.numbers.slots o.answer) e.0 in
      record {
        keeper = ap (λ (z : State). handed z m2 c2 f2 l2 w2) r.state ∙ ap (λ (o : Outcome). o.keeper) e.0;
        said = r.answer ∙ ap (λ (o : Outcome). o.answer) e.0;
        tells = r.fault ∙ e.1;
        place = p;
        brings =
            subst (λ (q : Option Place). m2 ≡ brought a k (act a k).answer q m2) (sym p)
            (subst (λ (o : Outcome). o.keeper.medium ≡ brought a k (act a k).answer (place_of a s.numbers.slots (act a k).answer) o.keeper.medium) (sym e.0) b);
      }

  -- call by call: what the keeper's method ensures, and what is said of its outcome
  module _ (m c f l w : List ℕ) where
    abbrev k : Keeper
    k = handed s m c f l w

    pub begin_made : (c2 f2 l2 w2 : List ℕ) → Ensured Begin (handed s [] c f l w) (leaves x out.state [] c2 f2 l2 w2) t → Says g out None d
        → Made Begin k d (handed d.state m c2 f2 l2 w2)
    unfolding handed leaves lent_to with_medium
    begin_made c2 f2 l2 w2 e r =
        made Begin m c f l w m c2 f2 l2 w2 (brings_begin k) (framed Begin k (handed s [] c f l w) _ t e) r

    pub write_made : (n v : ℕ) (c2 f2 l2 w2 : List ℕ) → Ensured (Write n v) (handed s [] c f l w) (leaves x out.state [] c2 f2 l2 w2) t → Says g out None d
        → Made (Write n v) k d (handed d.state m c2 f2 l2 w2)
    unfolding handed leaves lent_to with_medium
    write_made n v c2 f2 l2 w2 e r =
        made (Write n v) m c f l w m c2 f2 l2 w2 (brings_write n v k) (framed (Write n v) k (handed s [] c f l w) _ t e) r

    pub abort_made : (c2 f2 l2 w2 : List ℕ) → Ensured Abort (handed s [] c f l w) (leaves x out.state [] c2 f2 l2 w2) t → Says g out None d
        → Made Abort k d (handed d.state m c2 f2 l2 w2)
    unfolding handed leaves lent_to with_medium
    abort_made c2 f2 l2 w2 e r =
        made Abort m c f l w m c2 f2 l2 w2 (brings_abort k) (framed Abort k (handed s [] c f l w) _ t e) r

    pub commit-made : (m2 w2 : List ℕ) → Ensured Commit (handed s m [] [] [] w) (leaves x out.state m2 [] [] [] w2) t → Says g out None d
        → Made Commit k d (handed d.state m2 c f l w2)
    unfolding handed leaves lent_to state_of
    commit-made m2 w2 e r =
        made Commit m c f l w m2 c f l w2 (brings_commit k) (framed Commit k (handed s m [] [] [] w) _ t e) r

    pub read_made : (n : ℕ) → Ensured (Read n) (handed s [] c [] [] []) (leaves x out.state [] c [] [] []) t → Says g out None d
        → Made (Read n) k d (handed d.state m c f l w)
    unfolding handed leaves lent_to
    read_made n e r =
        made (Read n) m c f l w m c f l w (brings_read n k) (framed (Read n) k (handed s [] c [] [] []) _ t e) r

    pub force_made : (m2 : List ℕ) → Ensured Force (handed s m [] [] [] w) (leaves x out.state m2 [] [] [] w) t → Says g out (place_of Force s.numbers.slots x) d
        → Made Force k d (handed d.state m2 c f l w)
    unfolding handed leaves lent_to state_of
    force_made m2 e r =
        made Force m c f l w m2 c f l w (brings_force k) (framed Force k (handed s m [] [] [] w) _ t e) r

    pub cut-made : (p : ℕ) (m2 : List ℕ) → Ensured (Cut p) (handed s m [] f [] []) (leaves x out.state m2 [] f [] []) t → Says g out (place_of (Cut p) s.numbers.slots x) d
        → Made (Cut p) k d (handed d.state m2 c f l w)
    unfolding handed leaves lent_to state_of
    cut-made p m2 e r =
        made (Cut p) m c f l w m2 c f l w (brings-cut k p) (framed (Cut p) k (handed s m [] f [] []) _ t e) r

    pub back_made : (n : ℕ) (m2 f2 : List ℕ) → Ensured (WriteBack n) (handed s m c f l []) (leaves x out.state m2 c f2 l []) t
        → Says g out (place_of (WriteBack n) s.numbers.slots x) d → Made (WriteBack n) k d (handed d.state m2 c f2 l w)
    unfolding handed leaves lent_to state_of with_waiting
    back_made n m2 f2 e r =
        made (WriteBack n) m c f l w m2 c f2 l w (brings_back k n) (framed (WriteBack n) k (handed s m c f l []) _ t e) r

    pub step_made : (m2 : List ℕ) → Ensured RecoveryStep (handed s m c [] [] []) (leaves x out.state m2 c [] [] []) t
        → Says g out (place_of RecoveryStep s.numbers.slots x) d → Made RecoveryStep k d (handed d.state m2 c f l w)
    unfolding handed leaves lent_to state_of
    step_made m2 e r =
        made RecoveryStep m c f l w m2 c f l w (brings_step k) (framed RecoveryStep k (handed s m c [] [] []) _ t e) r

    pub start_made : (c2 f2 l2 : List ℕ) → Ensured RecoveryStart (stateless m c f l w) (leaves x out.state m c2 f2 l2 w) t → Says g out None d
        → Made RecoveryStart k d (handed d.state m c2 f2 l2 w)
    unfolding handed leaves lent_to stateless with_state
    start_made c2 f2 l2 e r =
        made RecoveryStart m c f l w m c2 f2 l2 w (brings_start k)
        (e.0 ∙ sym (start_any_state (state_of s.numbers s.phase) (stateless m c f l w)), e.1 ∙ sym (start_tells (state_of s.numbers s.phase) (stateless m c f l w))) r
