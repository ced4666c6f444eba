-- An accepted commit, of any keeper at all, is its steps in turn: after the first every row from f+1 to l reads, one of force's steps leaves the
-- later ones so, and so none of them is refused.
use Prim.Native.Nat.{ℕ, zero, suc, ◌+◌, ◌*◌, ◌-◌, ◌%◌, ◌≤◌, ◌<◌}
use mathlib.Core.Path.{◌≡◌, refl, sym, ap, ◌∙◌, subst}
use mathlib.Core.Bool.{true, false}
use mathlib.Core.Logic.{◌≢◌}
use mathlib.Core.List.{List, [], ◌∷◌}
use native.Mathlib.Nat.{mod-lt, zero-add}
use native.Mathlib.Decide.{dec_le}
use native.Mathlib.Omega.{arith}
use borrow.Author.Tests.{eqb-true, lt-ltb, not-false}
use lib.Dec.{eqb}
use lib.ListN.{length, take, drop, replicate}
use Rattle.scope.specs.Bytes.{put}
use Rattle.scope.specs.Row.{Entry, commit_entry, row_bytes, read_row, is_entry}
use Rattle.scope.specs.Keeper.{idle, recovering, Keeper, Outcome, done, is_recovering, medium_length, row_at, waiting_row, with_state, with_medium, with_waiting, made_to, stored_next, append}
use Rattle.scope.specs.Recovery.{all_entries}
use Rattle.scope.specs.Refusals.{Commit, Force, lent, unfit, not_entries, tests, refusal}
use Rattle.scope.specs.Calls.{commit_made, forced, forced_by, unless, performed, act}
use Rattle.scope.specs.History.{call, appends, happen, answers, after}
use Rattle.scope.specs.Demands.{commit_steps, rising_from, CommitIsSteps}
use Rattle.scope.proofs.Bytes.{length-put, length-row, rows_apart, row_other, row_same}
use Rattle.scope.proofs.Row.{read_written, length-row_bytes}
use Rattle.scope.proofs.Represents.{Good, and_true}
use Rattle.scope.proofs.Refusals.{NoneOf, refusal-none, act-done, call-done}
use Rattle.scope.proofs.Sound.{Sound, sound_facts, fit_sound, fit_lent, made_commit_sound, force_sound}

-- row by row
pub entries_each : (count n : ℕ) (k : Keeper) → all_entries count n k ≡ true → (m : ℕ) → n < m → m ≤ n + count → is_entry (read_row k.state.cells m (waiting_row k m)) ≡ true
unfolding all_entries
entries_each zero n k e m a b = absurd (omega arith)
entries_each (suc count) n k e m a b = go (dec_le m (n + 1)) (entries_each count (n + 1) k p.1 m)
  where
    p : (is_entry (read_row k.state.cells (n + 1) (waiting_row k (n + 1))) ≡ true) × (all_entries count (n + 1) k ≡ true)
    p = and_true (is_entry (read_row k.state.cells (n + 1) (waiting_row k (n + 1)))) (all_entries count (n + 1) k) e

    go : Dec (m ≤ n + 1) → (n + 1 < m → m ≤ n + 1 + count → is_entry (read_row k.state.cells m (waiting_row k m)) ≡ true)
        → is_entry (read_row k.state.cells m (waiting_row k m)) ≡ true
    go (yes q) later = let z : n + 1 ≡ m = omega arith in subst (λ m. is_entry (read_row k.state.cells m (waiting_row k m)) ≡ true) z p.0
    go (no q) later = later (omega arith) (omega arith)

pub each_entries : (count n : ℕ) (k : Keeper) → ((m : ℕ) → n < m → m ≤ n + count → is_entry (read_row k.state.cells m (waiting_row k m)) ≡ true) → all_entries count n k ≡ true
unfolding all_entries
each_entries zero n k f = refl
each_entries (suc count) n k f = rw (f (n + 1) (omega arith) (omega arith), each_entries count (n + 1) k (λ m a b. f m (omega arith) (omega arith)))

-- in a history every row that is not stored reads
pub all_read : (k : Keeper) (J : List Entry) (g : Good k J) → k.state.phase ≢ recovering → all_entries (k.state.l - k.state.f) k.state.f k ≡ true
all_read k J g nr =
    each_entries (k.state.l - k.state.f) k.state.f k
    (λ m a b. let F = g.fine in let z : suc (k.state.h + (m - 1 - k.state.h)) ≡ m = omega (arith, F.h≤f) in
    subst (λ m. is_entry (read_row k.state.cells m (waiting_row k m)) ≡ true) z (ap is_entry (g.waits nr (m - 1 - k.state.h) (omega (arith, g.count, F.h≤f, F.f≤l)))))

-- idle, sound, lent a medium and waiting rows, and every row that is not stored reads
pub record Ready (k : Keeper) : Type 0 where
  pub fit : unfit Force k ≡ false
  pub rests : k.state.phase ≡ idle
  pub entries : (m : ℕ) → k.state.f < m → m ≤ k.state.l → is_entry (read_row k.state.cells m (waiting_row k m)) ≡ true

module _ (k : Keeper) where
  pub lengths : unfit Force k ≡ false → (length k.medium ≡ 32 + 32 * k.state.slots + 8 * k.state.cells) × (length k.waiting ≡ 32 * k.state.slots)
  unfolding lent medium_length
  lengths e =
      let p = and_true (eqb (length k.medium) (32 + 32 * k.state.slots + 8 * k.state.cells)) _ (fit_lent Force k e) in
      (eqb-true _ _ p.0, eqb-true _ _ p.1)

  pub facts : unfit Force k ≡ false → Sound k.state
  facts e = sound_facts k.state (fit_sound Force k e)

  module _ (r : Ready k) (more : k.state.f < k.state.l) where
    no_test : NoneOf (tests Force k)
    unfolding tests
    no_test = (r.fit, (ap is_recovering r.rests, (rw (r.entries (k.state.f + 1) (omega arith) (omega arith), lt-ltb k.state.f k.state.l more), tt)))

    pub force_done : act Force k ≡ record { answer = done (k.state.f + 1); keeper = forced k }
    unfolding performed
    force_done = call-done Force k no_test ∙ rw (lt-ltb k.state.f k.state.l more)

    fits : 32 + row_at k.state.slots (k.state.f + 1) + length (waiting_row k (k.state.f + 1)) ≤ length k.medium
    unfolding row_at waiting_row
    fits =
        let S = facts r.fit in let l = lengths r.fit in let pos : 0 < k.state.slots = omega (arith, S.slots≥) in let low = mod-lt (k.state.f + 1 - 1) pos in
        let w : length (take 32 (drop (32 * ((k.state.f + 1 - 1) % k.state.slots)) k.waiting)) ≡ 32
        = simp zero-add at (length-row 0 k.state.slots (k.state.f + 1 - 1) k.waiting pos (omega (arith, l))) in
        omega (arith, l, low, w)

    pub forced_ready : Ready (forced k)
    unfolding forced with_state with_medium stored_next waiting_row
    forced_ready =
        record {
          fit = still;
          rests = r.rests;
          entries = λ m a b. r.entries m (omega arith) b;
        }
      where
        still : unfit Force (forced k) ≡ false
        still = unfold unfit lent forced with_state with_medium stored_next in
            rw (force_sound k no_test more, length-put k.medium (waiting_row k (k.state.f + 1)) (32 + row_at k.state.slots (k.state.f + 1)) fits, fit_lent Force k r.fit)

-- force's steps, so many of them
pub forces : (count : ℕ) (k : Keeper) → Ready k → k.state.f + count ≤ k.state.l
    → (after (replicate count (call Force)) k ≡ forced_by count k) × (answers (replicate count (call Force)) k ≡ rising_from k.state.f count)
unfolding after answers happen forced_by forced with_state with_medium stored_next
forces zero k r b = (refl, refl)
forces (suc count) k r b =
    let lt : k.state.f < k.state.l = omega arith in let e = force_done k r lt in
    let rest = forces count (forced k) (forced_ready k r lt) (omega arith) in
    (ap (λ o. after (replicate count (call Force)) o.keeper) e ∙ rest.0, ap (λ o. o.answer ∷ answers (replicate count (call Force)) o.keeper) e ∙ ap (λ rs. done (k.state.f + 1) ∷ rs) rest.1)

-- after commit's first step
module _ (k : Keeper) (e : refusal Commit k ≡ 0) where
  passed : NoneOf (tests Commit k)
  passed = refusal-none Commit k e

  S : Sound k.state
  unfolding tests
  S = sound_facts k.state (fit_sound Commit k passed.0)

  both_fit : (length k.medium ≡ 32 + 32 * k.state.slots + 8 * k.state.cells) × (length k.waiting ≡ 32 * k.state.slots)
  unfolding tests lent medium_length
  both_fit =
      let p = and_true (eqb (length k.medium) (32 + 32 * k.state.slots + 8 * k.state.cells)) _ (fit_lent Commit k passed.0) in
      (eqb-true _ _ p.0, eqb-true _ _ p.1)

  T : Sound (made_to (k.state.l + 1) (k.state.l + 1) idle k.state)
  T = sound_facts _ (made_commit_sound k passed)

  room : (k.state.l + 1 - k.state.h ≤ k.state.slots) × (k.state.l + 1 ≤ 4294967295)
  unfolding made_to
  room = (T.room, T.l≤M)

  judged : all_entries (k.state.l - k.state.f) k.state.f k ≡ true
  unfolding tests not_entries
  judged = not-false _ passed.1.1.1.0

  abbrev C : ℕ
  C = k.state.slots

  abbrev waiting' : List ℕ
  waiting' = put k.waiting (32 * ((k.state.l + 1 - 1) % C)) (row_bytes (k.state.l + 1) commit_entry)

  -- the rows that were judged, and the commit's own
  reads : (m : ℕ) → k.state.f < m → m ≤ k.state.l + 1 → is_entry (read_row k.state.cells m (take 32 (drop (32 * ((m - 1) % C)) waiting'))) ≡ true
  unfolding waiting_row row_at
  reads m a b = go (dec_le m k.state.l)
    where
      go : Dec (m ≤ k.state.l) → is_entry (read_row k.state.cells m (take 32 (drop (32 * ((m - 1) % C)) waiting'))) ≡ true
      go (yes q) =
          rw (simp zero-add at (row_other 0 C (m - 1) (k.state.l + 1 - 1) k.waiting (row_bytes (k.state.l + 1) commit_entry) (omega (arith, S.slots≥)) (omega (arith, both_fit)) (length-row_bytes (k.state.l + 1) commit_entry)
          (rows_apart C (m - 1) (k.state.l + 1 - 1) (omega arith) (omega (arith, S.h≤f, room)))))
          (entries_each (k.state.l - k.state.f) k.state.f k judged m a (omega (arith, S.f≤l)))
      go (no q) =
          let z : m ≡ k.state.l + 1 = omega arith in
          rw (z, simp zero-add at (row_same 0 C (k.state.l + 1 - 1) k.waiting (row_bytes (k.state.l + 1) commit_entry) (omega (arith, S.slots≥)) (omega (arith, both_fit)) (length-row_bytes (k.state.l + 1) commit_entry)))
          (ap is_entry (read_written k.state.cells (k.state.l + 1) commit_entry (omega arith) (omega (arith, room)) S.cells≥))

  pub made_ready : Ready (commit_made k)
  unfolding commit_made with_state made_to append with_waiting waiting_row row_at
  made_ready = record { fit = fits; rests = refl; entries = reads }
    where
      inside : row_at k.state.slots (k.state.l + 1) + length (row_bytes (k.state.l + 1) commit_entry) ≤ length k.waiting
      inside = unfold row_at in (let pos : 0 < k.state.slots = omega (arith, S.slots≥) in omega (arith, mod-lt (k.state.l + 1 - 1) pos, both_fit, length-row_bytes (k.state.l + 1) commit_entry))

      fits : unfit Force (commit_made k) ≡ false
      fits = unfold unfit lent commit_made with_state made_to append with_waiting in
          rw (made_commit_sound k passed, length-put k.waiting (row_bytes (k.state.l + 1) commit_entry) (row_at k.state.slots (k.state.l + 1)) inside, fit_lent Commit k (unfold tests in passed.0))

  pub made-first : happen appends k ≡ record { answer = done (k.state.l + 1); keeper = commit_made k }
  unfolding happen
  made-first = ap (λ n. unless n (record { answer = done (k.state.l + 1); keeper = commit_made k }) k) e

  -- f is not above l, so that force's steps end at l
  pub to_last : k.state.f + (k.state.l + 1 - k.state.f) ≡ k.state.l + 1
  to_last = omega (arith, S.f≤l)

  pub some-cells : 0 < k.state.cells
  some-cells = omega (arith, S.cells≥)

  abbrev count : ℕ
  count = k.state.l + 1 - k.state.f

  pub stored_all : (after (replicate count (call Force)) (commit_made k) ≡ forced_by count (commit_made k)) × (answers (replicate count (call Force)) (commit_made k) ≡ rising_from k.state.f count)
  unfolding commit_made with_state made_to
  stored_all = forces count (commit_made k) made_ready (omega (arith, to_last))

  steps : ((act Commit k).keeper ≡ after (commit_steps k) k) × (answers (commit_steps k) k ≡ done (k.state.l + 1) ∷ rising_from k.state.f count)
      × ((after (appends ∷ []) k).medium ≡ k.medium)
  unfolding performed after answers
  steps = (
    ap (λ o. o.keeper) (act-done Commit k e) ∙ sym (ap (λ o. after (replicate count (call Force)) o.keeper) made-first ∙ stored_all.0),
    ap (λ o. o.answer ∷ answers (replicate count (call Force)) o.keeper) made-first ∙ ap (λ rs. done (k.state.l + 1) ∷ rs) stored_all.1,
    ap (λ o. o.keeper.medium) made-first ∙ untouched,
  )
    where
      untouched : (commit_made k).medium ≡ k.medium
      untouched = unfold commit_made with_state append with_waiting in refl

pub accepted_commit : (k : Keeper) (v : ℕ) → (act Commit k).answer ≡ done v → (refusal Commit k ≡ 0) × (v ≡ k.state.l + 1)
unfolding act performed
accepted_commit k v = go (refusal Commit k) (performed Commit k) refl
  where
    same : {m n : ℕ} → done m ≡ done n → m ≡ n
    same e = cc

    go : (n : ℕ) (o : Outcome) → o.answer ≡ done (k.state.l + 1) → (unless n o k).answer ≡ done v → (n ≡ 0) × (v ≡ k.state.l + 1)
    go zero o q a = (refl, same (sym a ∙ q))
    go (suc n) o q a = absurd (let z : ◌≡◌ {A = ℕ} 0 1 = cc in omega arith)

-- COMMIT IS ITS STEPS IN TURN
pub commit_is_steps : CommitIsSteps
commit_is_steps k v a =
    let p = accepted_commit k v a in let q = steps k p.0 in
    (q.0, q.1 ∙ ap (λ n. done n ∷ rising_from k.state.f (k.state.l + 1 - k.state.f)) (sym p.1), q.2)
