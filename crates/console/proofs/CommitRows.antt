-- Bringing a commit's rows, one after the other, gives the medium after it: each row that it stored stays, since no later one of at most C rows
-- stands in its place.
use Prim.Native.Nat.{ℕ, zero, suc, ◌+◌, ◌*◌, ◌-◌, ◌%◌, ◌≤◌, ◌<◌}
use mathlib.Core.Path.{◌≡◌, refl, sym, ap, ◌∙◌, subst}
use mathlib.Core.Logic.{◌≢◌}
use mathlib.Core.List.{List}
use native.Mathlib.Nat.{mod-lt, zero-add}
use native.Mathlib.Decide.{dec_le}
use native.Mathlib.Omega.{arith}
use lib.ListN.{length, take, drop}
use Rattle.scope.specs.Bytes.{put}
use Rattle.scope.specs.Keeper.{Keeper, value_of, row_at, waiting_row, with_state, with_medium, with_waiting, made_to, stored_next, append}
use Rattle.scope.specs.Refusals.{Commit, refusal}
use Rattle.scope.specs.Calls.{commit_made, forced, forced_by, unless, act, performed}
use Rattle.scope.proofs.Bytes.{length-put, length-row, rows_apart, row_other, row_same}
use Rattle.scope.proofs.CommitCall.{lengths, facts, made_ready}
use Rattle.console.specs.Made.{rows_brought}

-- C rows on the medium, and as many that wait
pub record HasRows (k : Keeper) : Type 0 where
  pub some-slots : 0 < k.state.slots
  pub in_medium : 32 + 32 * k.state.slots ≤ length k.medium
  pub in_rows : 32 * k.state.slots ≤ length k.waiting

module _ (k : Keeper) (r : HasRows k) where
  abbrev C : ℕ
  C = k.state.slots

  abbrev next : ℕ
  next = k.state.f + 1

  row# : length (take 32 (drop (32 * ((next - 1) % C)) k.waiting)) ≡ 32
  row# = simp zero-add at (length-row 0 C (next - 1) k.waiting r.some-slots (omega (arith, r.in_rows)))

  pub forced_rows : HasRows (forced k)
  unfolding forced with_state with_medium stored_next waiting_row row_at
  forced_rows =
      let low = mod-lt (next - 1) r.some-slots in
      let e = length-put k.medium (take 32 (drop (32 * ((next - 1) % C)) k.waiting)) (32 + 32 * ((next - 1) % C)) (omega (arith, low, row#, r.in_medium)) in
      record { some-slots = r.some-slots; in_medium = omega (arith, e, r.in_medium); in_rows = r.in_rows }

  -- the row of entry n on the medium after one step: it is stored, or another is
  pub stored_here : take 32 (drop (32 + row_at C next) (forced k).medium) ≡ waiting_row k next
  unfolding forced with_state with_medium waiting_row row_at
  stored_here = row_same 32 C (next - 1) k.medium _ r.some-slots r.in_medium row#

  pub stored_there : (n : ℕ) → (n - 1) % C ≢ (next - 1) % C → take 32 (drop (32 + row_at C n) (forced k).medium) ≡ take 32 (drop (32 + row_at C n) k.medium)
  unfolding forced with_state with_medium waiting_row row_at
  stored_there n h = row_other 32 C (n - 1) (next - 1) k.medium _ r.some-slots r.in_medium row# h

-- the rows that stand on the medium after so many steps
untouched : (count : ℕ) (k : Keeper) → HasRows k → (n : ℕ) → 0 < n → n ≤ k.state.f → k.state.f + count < n + k.state.slots
    → take 32 (drop (32 + row_at k.state.slots n) (forced_by count k).medium) ≡ take 32 (drop (32 + row_at k.state.slots n) k.medium)
unfolding forced_by forced with_state with_medium stored_next
untouched zero k r n p a b = refl
untouched (suc count) k r n p a b =
    untouched count (forced k) (forced_rows k r) n p (omega arith) (omega arith)
    ∙ stored_there k r n (rows_apart k.state.slots (n - 1) (k.state.f + 1 - 1) (omega arith) (omega arith))

stored_rows : (count : ℕ) (k : Keeper) → HasRows k → count ≤ k.state.slots → (n : ℕ) → k.state.f < n → n ≤ k.state.f + count
    → take 32 (drop (32 + row_at k.state.slots n) (forced_by count k).medium) ≡ waiting_row k n
unfolding forced_by forced with_state with_medium stored_next waiting_row
stored_rows zero k r b n lo hi = absurd (omega arith)
stored_rows (suc count) k r b n lo hi = go (dec_le n (k.state.f + 1)) (stored_rows count (forced k) (forced_rows k r) (omega arith) n)
  where
    go : Dec (n ≤ k.state.f + 1)
        → (k.state.f + 1 < n → n ≤ k.state.f + 1 + count → take 32 (drop (32 + row_at k.state.slots n) (forced_by count (forced k)).medium) ≡ waiting_row k n)
        → take 32 (drop (32 + row_at k.state.slots n) (forced_by count (forced k)).medium) ≡ waiting_row k n
    go (yes q) later =
        let z : k.state.f + 1 ≡ n = omega arith in
        subst (λ n. take 32 (drop (32 + row_at k.state.slots n) (forced_by count (forced k)).medium) ≡ waiting_row k n) z
        (unfold forced with_state with_medium stored_next in
        (untouched count (forced k) (forced_rows k r) (k.state.f + 1) (omega arith) (omega arith) (omega arith) ∙ stored_here k r))
    go (no q) later = later (omega arith) (omega arith)

brought_rows : (count : ℕ) (k : Keeper) (from : List ℕ)
    → ((n : ℕ) → k.state.f < n → n ≤ k.state.f + count → take 32 (drop (32 + row_at k.state.slots n) from) ≡ waiting_row k n)
    → rows_brought k.state.slots count k.state.f from k.medium ≡ (forced_by count k).medium
unfolding rows_brought forced_by forced with_state with_medium stored_next waiting_row
brought_rows zero k from e = refl
brought_rows (suc count) k from e =
    ap (λ row. rows_brought k.state.slots count (k.state.f + 1) from (put k.medium (32 + row_at k.state.slots (k.state.f + 1)) row))
    (e (k.state.f + 1) (omega arith) (omega arith))
    ∙ brought_rows count (forced k) from (λ n lo hi. e n (omega arith) (omega arith))

-- an accepted commit
module _ (k : Keeper) (e : refusal Commit k ≡ 0) where
  abbrev made : Keeper
  made = commit_made k

  abbrev count : ℕ
  count = k.state.l + 1 - k.state.f

  has_rows : HasRows made
  has_rows =
      let l = lengths made (made_ready k e).fit in let S = facts made (made_ready k e).fit in
      record { some-slots = omega (arith, S.slots≥); in_medium = omega (arith, l.0); in_rows = omega (arith, l.1) }

  few : count ≤ made.state.slots
  unfolding commit_made with_state made_to
  few = let S = facts made (made_ready k e).fit in omega (arith, S.room, S.h≤f)

  rows_back : (forced_by count made).medium ≡ rows_brought k.state.slots count k.state.f (forced_by count made).medium k.medium
  unfolding commit_made with_state made_to append with_waiting
  rows_back = sym (brought_rows count made (forced_by count made).medium (stored_rows count made has_rows few))

pub brings_commit : (k : Keeper)
    → (act Commit k).keeper.medium ≡ rows_brought k.state.slots (value_of (act Commit k).answer - k.state.f) k.state.f (act Commit k).keeper.medium k.medium
unfolding act performed
brings_commit k = go (refusal Commit k) refl
  where
    go : (n : ℕ) → refusal Commit k ≡ n → (let o = unless n (performed Commit k) k in
        o.keeper.medium ≡ rows_brought k.state.slots (value_of o.answer - k.state.f) k.state.f o.keeper.medium k.medium)
    go zero e = unfold performed in rows_back k e
    go (suc n) e = unfold rows_brought in (let z : 0 - k.state.f ≡ 0 = omega arith in rw z)
