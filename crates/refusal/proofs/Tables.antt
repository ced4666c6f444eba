-- Each call's table, cut into the parts in which the code asks it.
use Prim.Native.Nat.{ℕ, ◌+◌}
use mathlib.Core.Path.{◌≡◌, refl, sym, ap}
use mathlib.Core.Bool.{Bool, true, false, ◌&&◌, ◌||◌, not}
use mathlib.Core.List.{List, [], ◌∷◌, ◌++◌}
use mathlib.Core.Option.{Option}
use borrow.Author.Tests.{eq-eqb, ne_eqb}
use lib.Dec.{eqb, ltb, leb}
use lib.ListN.{get_or}
use Rattle.scope.specs.Row.{Entry, is_entry, is_update}
use Rattle.scope.specs.Keeper.{sound, medium_row}
use Rattle.scope.specs.Refusals.{Begin, Read, Write, Commit, Abort, Force, WriteBack, Cut, Look, lent, unfit, not_updates, not_entries, any_first, tests}
use Rattle.state.specs.State.{state_of}
use Rattle.state.specs.declared.Numbers.{Numbers}
use Rattle.state.specs.declared.Phase as code
use Rattle.state.specs.Lent.{lent_to}
use Rattle.journal.specs.Entries.{entry_in}
use Rattle.workspace.proofs.Alike.{waiting-entry}
use Rattle.refusal.specs.Judges.{ready_tests, run_tests, cell_tests, room_tests}
use Rattle.refusal.specs.Rows.{moved_no}

-- the parts that one call alone has

abbrev pub force_tests : Numbers → List ℕ → List (Bool × ℕ)
force_tests n waiting = (ltb n.f n.l && not (is_entry (entry_in waiting 0 n.slots n.cells (n.f + 1))), 7) ∷ []

abbrev pub stored_tests : Numbers → ℕ → List ℕ → List ℕ → List (Bool × ℕ)
stored_tests n cell first last = (ltb 0 (get_or first cell 0) && ltb n.f (get_or last cell 0), 8) ∷ []

abbrev pub range_tests : Numbers → ℕ → List (Bool × ℕ)
range_tests n q = (ltb q n.h || (ltb n.f q || ltb n.o q), 9) ∷ []

abbrev pub moved_tests : Numbers → ℕ → List ℕ → List (Bool × ℕ)
moved_tests n q m =
    let x = entry_in m 32 n.slots n.cells q in
    (not (eqb q n.h) && not (is_entry x), 7) ∷ (not (eqb q n.h) && is_update x, 9) ∷ []

abbrev pub dirty_tests : ℕ → List ℕ → List (Bool × ℕ)
dirty_tests q first = (any_first q first, 9) ∷ []

abbrev pub entry_tests : Numbers → ℕ → List (Bool × ℕ)
entry_tests n x = (leb x n.h || ltb n.l x, 11) ∷ []

module _ (n : Numbers) (p : code.Phase) (medium current first last waiting : List ℕ) (fit : Bool) where
  pub read_table : (cell : ℕ) → fit ≡ (sound (state_of n p) && lent (Read cell) (lent_to n p medium current first last waiting))
      → (run_tests fit p ++ cell_tests n cell) ≡ tests (Read cell) (lent_to n p medium current first last waiting)
  unfolding tests unfit lent lent_to state_of
  read_table cell e = rw e refl

  pub write_table : (cell v : ℕ) → fit ≡ (sound (state_of n p) && lent Abort (lent_to n p medium current first last waiting))
      → ((run_tests fit p ++ cell_tests n cell) ++ room_tests n p) ≡ tests (Write cell v) (lent_to n p medium current first last waiting)
  unfolding tests unfit lent lent_to state_of
  write_table cell v e = rw e refl

  pub commit_table : fit ≡ (sound (state_of n p) && lent Commit (lent_to n p medium current first last waiting))
      → (run_tests fit p ++ (not_entries (lent_to n p medium current first last waiting), 7) ∷ []) ≡ tests Commit (lent_to n p medium current first last waiting)
  unfolding tests unfit lent lent_to state_of
  commit_table e = rw e refl

  pub abort_table : fit ≡ (sound (state_of n p) && lent Abort (lent_to n p medium current first last waiting))
      → (ready_tests fit p ++ (not_updates (lent_to n p medium current first last waiting), 7) ∷ []) ≡ tests Abort (lent_to n p medium current first last waiting)
  unfolding tests unfit lent lent_to state_of
  abort_table e = rw e refl

  pub force_table : fit ≡ (sound (state_of n p) && lent Commit (lent_to n p medium current first last waiting))
      → (ready_tests fit p ++ force_tests n waiting) ≡ tests Force (lent_to n p medium current first last waiting)
  unfolding tests unfit lent lent_to state_of
  force_table e =
      rw e (ap (λ x. ready_tests (sound (state_of n p) && lent Commit (lent_to n p medium current first last waiting)) p ++ (ltb n.f n.l && not (is_entry x), 7) ∷ [])
      (sym (waiting-entry (lent_to n p medium current first last waiting) (n.f + 1))))

  pub back_table : (cell : ℕ) → fit ≡ (sound (state_of n p) && lent (WriteBack 0) (lent_to n p medium current first last waiting))
      → ((ready_tests fit p ++ cell_tests n cell) ++ stored_tests n cell first last) ≡ tests (WriteBack cell) (lent_to n p medium current first last waiting)
  unfolding tests unfit lent lent_to state_of
  back_table cell e = rw e refl

  pub cut_table : (q : ℕ) → fit ≡ (sound (state_of n p) && lent (Cut 0) (lent_to n p medium current first last waiting))
      → (ready_tests fit p ++ range_tests n q ++ moved_tests n q medium ++ dirty_tests q first) ≡ tests (Cut q) (lent_to n p medium current first last waiting)
  unfolding tests unfit lent lent_to state_of entry_in medium_row
  cut_table q e = rw e refl

  pub look_table : (x : ℕ) → fit ≡ (sound (state_of n p) && lent Commit (lent_to n p medium current first last waiting))
      → (ready_tests fit p ++ entry_tests n x) ≡ tests (Look x) (lent_to n p medium current first last waiting)
  unfolding tests unfit lent lent_to state_of
  look_table x e = rw e refl

-- begin's table is abort's, and then room
pub begin_table : (n : Numbers) (p : code.Phase) (medium current first last waiting : List ℕ)
    → (tests Abort (lent_to n p medium current first last waiting) ++ room_tests n p) ≡ tests Begin (lent_to n p medium current first last waiting)
unfolding tests unfit lent lent_to state_of
begin_table n p medium current first last waiting = refl

-- cut: what the row of p says

module _ (h p : ℕ) (e : Option Entry) where
  pub moved_same : p ≡ h → 0 ≡ moved_no h p e
  unfolding moved_no
  moved_same q = simp (eq-eqb p h q)

  module _ (q : p ≡ h → ⊥) where
    pub moved_none : false ≡ is_entry e → 7 ≡ moved_no h p e
    unfolding moved_no
    moved_none i = simp (ne_eqb p h q, ← i)

    pub moved-end : true ≡ is_entry e → false ≡ is_update e → 0 ≡ moved_no h p e
    unfolding moved_no
    moved-end i j = simp (ne_eqb p h q, ← i, ← j)

    pub moved-update : true ≡ is_entry e → true ≡ is_update e → 9 ≡ moved_no h p e
    unfolding moved_no
    moved-update i j = simp (ne_eqb p h q, ← i, ← j)
