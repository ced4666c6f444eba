-- What a call that is not refused knows: no test of its table holds.
use Prim.Native.Nat.{ℕ, ◌+◌, ◌*◌, ◌≤◌, ◌<◌}
use mathlib.Core.Path.{◌≡◌, refl, sym}
use mathlib.Core.Bool.{true, false, false≢true}
use mathlib.Core.List.{List}
use native.Mathlib.Omega.{arith}
use borrow.Author.Tests.{eqb-true, leb-false}
use lib.ListN.{length}
use Rattle.scope.specs.Keeper.{Keeper, is_idle, is_run, is_recovering, cell_at}
use Rattle.scope.specs.Refusals.{Call, Begin, Read, Write, Commit, Abort, Force, WriteBack, Cut, lent, unfit, tests, refusal}
use Rattle.scope.proofs.Refusals.{refusal-none}
use Rattle.scope.proofs.Sound.{fit_sound, fit_lent}
use Rattle.state.specs.State.{phase_of, state_of}
use Rattle.state.specs.declared.Numbers.{Numbers}
use Rattle.state.specs.declared.Phase as code
use Rattle.state.specs.declared.Phase.TheVariants.{Idle, Run, Recovering}
use Rattle.state.proofs.Facts.{and_left, and_right, Sound, sound_facts, run_facts, medium_fits}
use Rattle.state.specs.Lent.{lent_to}
use Rattle.forcing.specs.Storing.{Storing}
use Rattle.keeper.specs.Rolling.{Rolling}

ruleset lengths = (and_left, and_right, eqb-true)

in-run : (p : code.Phase) → is_recovering (phase_of p) ≡ false → is_idle (phase_of p) ≡ false → is_run (phase_of p) ≡ true
in-run Idle a b = absurd (false≢true (sym b))
in-run Run a b = refl
in-run Recovering a b = absurd (false≢true (sym a))

module _ (n : Numbers) (p : code.Phase) (medium current first last waiting : List ℕ) where
  k : Keeper
  k = lent_to n p medium current first last waiting

  is_sound : (a : Call) → unfit a k ≡ false → Sound n p
  unfolding lent_to k
  is_sound a e = sound_facts n p (fit_sound a k e)

  workspaces_fit : lent Abort k ≡ true → (length current ≡ n.cells) × (length first ≡ n.cells) × (length last ≡ n.cells) × (length waiting ≡ 32 * n.slots)
  unfolding lent lent_to state_of k
  workspaces_fit e = (search lengths, search lengths, search lengths, search lengths)

  rolling : Sound n p → is_run (phase_of p) ≡ true → lent Abort k ≡ true → Rolling n current first last waiting
  rolling s r e = let d = workspaces_fit e in let f = run_facts n p s r in omega arith

  pub read_passed : (c : ℕ) → refusal (Read c) (lent_to n p medium current first last waiting) ≡ 0 → c < length current
  unfolding tests lent lent_to state_of k
  read_passed c e =
      let t = refusal-none (Read c) k e in
      let l : length current ≡ n.cells = eqb-true (length current) n.cells (fit_lent (Read c) k t.0) in
      omega (arith, leb-false n.cells c t.1.1.1.0)

  pub write_passed : (c v : ℕ) → refusal (Write c v) (lent_to n p medium current first last waiting) ≡ 0 → Rolling n current first last waiting × (c < n.cells)
  unfolding tests lent lent_to state_of k
  write_passed c v e =
      let t = refusal-none (Write c v) k e in
      (rolling (is_sound (Write c v) t.0) (in-run p t.1.0 t.1.1.0) (fit_lent (Write c v) k t.0), leb-false n.cells c t.1.1.1.0)

  pub commit_passed : refusal Commit (lent_to n p medium current first last waiting) ≡ 0
      → Sound n p × (length medium ≡ 32 + 32 * n.slots + 8 * n.cells) × (length waiting ≡ 32 * n.slots) × (n.l < 4294967295)
  unfolding tests lent lent_to state_of k
  commit_passed e =
      let t = refusal-none Commit k e in
      let l = fit_lent Commit k t.0 in
      let s = is_sound Commit t.0 in
      (s, medium_fits n medium (search lengths), search lengths, (run_facts n p s (in-run p t.1.0 t.1.1.0)).next)

  -- so its rows can be made and stored
  pub commit_storing : refusal Commit (lent_to n p medium current first last waiting) ≡ 0 → (a : Numbers) (w : List ℕ)
      → (a.l ≡ n.l + 1) × (a.f ≡ n.f) × (a.slots ≡ n.slots) → length w ≡ length waiting → Storing a medium w
  commit_storing e a w i h = let d = commit_passed e in omega (arith, d.0, d.1, d.2, i)

  pub abort_passed : refusal Abort (lent_to n p medium current first last waiting) ≡ 0 → is_run (phase_of p) ≡ true → Rolling n current first last waiting
  unfolding tests k
  abort_passed e r = let t = refusal-none Abort k e in rolling (is_sound Abort t.0) r (fit_lent Abort k t.0)

  pub begin_passed : refusal Begin (lent_to n p medium current first last waiting) ≡ 0 → is_run (phase_of p) ≡ true → Rolling n current first last waiting
  unfolding tests lent k
  begin_passed e r = let t = refusal-none Begin k e in rolling (is_sound Begin t.0) r (fit_lent Begin k t.0)

  pub force_passed : refusal Force (lent_to n p medium current first last waiting) ≡ 0
      → Sound n p × (length medium ≡ 32 + 32 * n.slots + 8 * n.cells) × (length waiting ≡ 32 * n.slots)
  unfolding tests lent lent_to state_of k
  force_passed e =
      let t = refusal-none Force k e in
      let l = fit_lent Force k t.0 in
      (is_sound Force t.0, medium_fits n medium (search lengths), search lengths)

  pub back_passed : (c : ℕ) → refusal (WriteBack c) (lent_to n p medium current first last waiting) ≡ 0
      → (length medium ≡ 32 + 32 * n.slots + 8 * n.cells) × (length current ≡ n.cells) × (length first ≡ n.cells) × (c < n.cells)
  unfolding tests lent lent_to state_of k
  back_passed c e =
      let t = refusal-none (WriteBack c) k e in
      let l = fit_lent (WriteBack c) k t.0 in
      (medium_fits n medium (search lengths), search lengths, search lengths, leb-false n.cells c t.1.1.0)

  pub cut_passed : (q : ℕ) → refusal (Cut q) (lent_to n p medium current first last waiting) ≡ 0 → length medium ≡ 32 + 32 * n.slots + 8 * n.cells
  unfolding tests lent lent_to state_of k
  cut_passed q e =
      let t = refusal-none (Cut q) k e in
      let l = fit_lent (Cut q) k t.0 in
      medium_fits n medium (search lengths)

-- a cell of the table lies on the medium
pub cell_room : (cells slots cell len : ℕ) → len ≡ 32 + 32 * slots + 8 * cells → cell < cells → cell_at slots cell + 8 ≤ len
unfolding cell_at
cell_room cells slots cell len e h = omega arith
