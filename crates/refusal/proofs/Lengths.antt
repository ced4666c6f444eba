-- What a fit call knows of its buffers: each length as N and C say.
use Prim.Native.Nat.{ℕ, ◌+◌, ◌*◌, ◌≤◌, ◌<◌}
use mathlib.Core.Path.{◌≡◌, sym, ◌∙◌}
use mathlib.Core.Bool.{Bool, true, ◌&&◌}
use mathlib.Core.List.{List}
use native.Mathlib.Omega.{arith}
use borrow.Author.Tests.{eqb-true, leb-false}
use lib.ListN.{length}
use Rattle.std.specs.Prelude.{Ok}
use Rattle.scope.specs.Keeper.{sound}
use Rattle.scope.specs.Refusals.{Call, Abort, Commit, Cut, WriteBack, lent}
use Rattle.state.specs.State.{state_of}
use Rattle.state.specs.declared.Numbers.{Numbers}
use Rattle.state.specs.declared.Phase as code
use Rattle.state.proofs.Facts.{and_left, and_right, Sound, sound_facts, medium_fits}
use Rattle.state.specs.Lent.{lent_to}
use Rattle.journal.specs.Entries.{Rows}
use Rattle.refusal.specs.Judges.{Asks, cell_tests}
use Rattle.refusal.proofs.Asking.{passed}

ruleset tests = (and_left, and_right, eqb-true)

pub in_cells : {S : Type 0} (n : Numbers) (c : ℕ) (v : S) → Asks {T = S} (Ok v) (cell_tests n c) → c < n.cells
in_cells n c v s = leb-false n.cells c (passed (cell_tests n c) v (omega arith) s).0

rows_fit : (n : Numbers) (p : code.Phase) (rows : List ℕ) (base x : ℕ) → Sound n p → base + 32 * n.slots ≤ length rows → 0 < x → Rows rows base n.slots x
rows_fit n p rows base x s h i = omega arith

module _ (n : Numbers) (p : code.Phase) (medium current first last waiting : List ℕ) (fit : Bool) (t : fit ≡ true) where
  module _ (a : Call) (e : fit ≡ (sound (state_of n p) && lent a (lent_to n p medium current first last waiting))) where
    pub is_sound : Sound n p
    is_sound = sound_facts n p (and_left _ _ (sym e ∙ t))

    is_lent : lent a (lent_to n p medium current first last waiting) ≡ true
    is_lent = and_right (sound (state_of n p)) _ (sym e ∙ t)

  pub workspaces_fit : fit ≡ (sound (state_of n p) && lent Abort (lent_to n p medium current first last waiting)) → (x : ℕ) → 0 < x → Rows waiting 0 n.slots x
  unfolding lent lent_to state_of
  workspaces_fit e x h =
      let q = is_lent Abort e in
      let l : length waiting ≡ 32 * n.slots = search tests in rows_fit n p waiting 0 x (is_sound Abort e) (omega arith) h

  pub waiting_fits : fit ≡ (sound (state_of n p) && lent Commit (lent_to n p medium current first last waiting)) → (x : ℕ) → 0 < x → Rows waiting 0 n.slots x
  unfolding lent lent_to state_of
  waiting_fits e x h =
      let q = is_lent Commit e in
      let l : length waiting ≡ 32 * n.slots = search tests in rows_fit n p waiting 0 x (is_sound Commit e) (omega arith) h

  pub medium_rows : fit ≡ (sound (state_of n p) && lent (Cut 0) (lent_to n p medium current first last waiting)) → Rows medium 32 n.slots 1
  unfolding lent lent_to state_of
  medium_rows e =
      let r = is_lent (Cut 0) e in
      let l = medium_fits n medium (and_left _ _ r) in rows_fit n p medium 32 1 (is_sound (Cut 0) e) (omega arith) (omega arith)

  pub marks_fit : fit ≡ (sound (state_of n p) && lent (WriteBack 0) (lent_to n p medium current first last waiting)) → (length first ≡ n.cells) × (length last ≡ n.cells)
  unfolding lent lent_to state_of
  marks_fit e = let q = is_lent (WriteBack 0) e in (search tests, search tests)
