-- What a call tells of rows, for the code: what is told by the refusal's number, and that a row of the open transaction is found bad exactly where
-- not all of them are updates. The table goes over the rows in falling order and the search for the lowest in rising order: by taking the last
-- of the rising rows off.
use Prim.Native.Nat.{ℕ, zero, suc, ◌+◌, ◌-◌}
use mathlib.Core.Path.{◌≡◌, refl, sym, ap, ◌∙◌}
use mathlib.Core.Bool.{Bool, true, false, ◌&&◌, not}
use mathlib.Core.Option.{Option, none, some}
use native.Mathlib.Omega.{arith}
use borrow.Author.Tests.{eq-eqb, ne_eqb}
use Rattle.scope.specs.Row.{Reason, Fault, faultless, fault, fault_at, lowest_fault, read_row, is_update, wrong_entry, wrong_update}
use Rattle.scope.specs.Keeper.{Keeper, waiting_row}
use Rattle.scope.specs.Recovery.{all_updates, all_entries}
use Rattle.scope.specs.Refusals.{Call, refusal, bad_row, told}
use Rattle.scope.proofs.Reasons.{is_no_reason, entry_or_wrong, update_or_wrong}

abbrev pub is_fault : Fault → Bool
is_fault faultless = false
is_fault (fault x n) = true

-- rows in rising order

unfoldable rising : (ℕ → Bool) → ℕ → ℕ → Bool
rising good zero n = true
rising good (suc count) n = good (n + 1) && rising good count (n + 1)

swap : (a b c : Bool) → (a && (b && c)) ≡ (b && (a && c))
swap true b c = refl
swap false true c = refl
swap false false c = refl

rising-last : (good : ℕ → Bool) (count n : ℕ) → rising good (suc count) n ≡ (good (n + suc count) && rising good count n)
unfolding rising
rising-last good zero n = refl
rising-last good (suc count) n =
    let e : n + 1 + suc count ≡ n + suc (suc count) = omega arith in
    ap (λ b. good (n + 1) && b) (rising-last good count (n + 1) ∙ ap (λ m. good m && rising good count (n + 1)) e)
    ∙ swap (good (n + 1)) (good (n + suc (suc count))) (rising good count (n + 1))

found : (wrong : ℕ → Option Reason) (count n : ℕ) → is_fault (lowest_fault wrong count n) ≡ not (rising (λ m. is_no_reason (wrong m)) count n)
unfolding lowest_fault rising
found wrong zero n = refl
found wrong (suc count) n = go (wrong (n + 1)) (found wrong count (n + 1))
  where
    go : (o : Option Reason) → is_fault (lowest_fault wrong count (n + 1)) ≡ not (rising (λ m. is_no_reason (wrong m)) count (n + 1))
        → is_fault (fault_at (n + 1) o (lowest_fault wrong count (n + 1))) ≡ not (is_no_reason o && rising (λ m. is_no_reason (wrong m)) count (n + 1))
    go (some x) ih = refl
    go none ih = ih

module _ (k : Keeper) where
  judged : ℕ → Bool
  judged m = is_no_reason (wrong_update k.state.cells m (waiting_row k m))

  falling : (count n : ℕ) → all_updates count (n + count) k ≡ rising judged count n
  unfolding all_updates rising judged
  falling zero n = refl
  falling (suc count) n =
      let e : n + suc count - 1 ≡ n + count = omega arith in
      ap (λ m. is_update (read_row k.state.cells (n + suc count) (waiting_row k (n + suc count))) && all_updates count m k) e
      ∙ ap (λ b. b && all_updates count (n + count) k) (update_or_wrong k.state.cells (n + suc count) (waiting_row k (n + suc count)))
      ∙ ap (λ b. judged (n + suc count) && b) (falling count n) ∙ sym (rising-last judged count n)

  -- A ROW IS FOUND BAD EXACTLY WHERE NOT ALL ARE UPDATES
  pub updates_judged : (count n : ℕ) → is_fault (lowest_fault (λ m. wrong_update k.state.cells m (waiting_row k m)) count n) ≡ not (all_updates count (n + count) k)
  unfolding judged
  updates_judged count n = found (λ m. wrong_update k.state.cells m (waiting_row k m)) count n ∙ ap not (sym (falling count n))

  -- and exactly where not all are entries
  rises : (count n : ℕ) → all_entries count n k ≡ rising (λ m. is_no_reason (wrong_entry k.state.cells m (waiting_row k m))) count n
  unfolding all_entries rising
  rises zero n = refl
  rises (suc count) n =
      ap (λ b. b && all_entries count (n + 1) k) (entry_or_wrong k.state.cells (n + 1) (waiting_row k (n + 1)))
      ∙ ap (λ b. is_no_reason (wrong_entry k.state.cells (n + 1) (waiting_row k (n + 1))) && b) (rises count (n + 1))

  pub rows_judged : (count n : ℕ) → is_fault (lowest_fault (λ m. wrong_entry k.state.cells m (waiting_row k m)) count n) ≡ not (all_entries count n k)
  rows_judged count n = found (λ m. wrong_entry k.state.cells m (waiting_row k m)) count n ∙ ap not (sym (rises count n))

-- by the refusal's number

module _ (a : Call) (k : Keeper) (number : ℕ) (e : number ≡ refusal a k) where
  pub told_nothing : (number ≡ 2 → ⊥) → (number ≡ 7 → ⊥) → faultless ≡ told a k
  unfolding told
  told_nothing p q = simp (← e, ne_eqb number 2 p, ne_eqb number 7 q)

  pub told_2 : number ≡ 2 → bad_row a k ≡ told a k
  unfolding told
  told_2 p = simp (← e, eq-eqb number 2 p)

  pub told_7 : number ≡ 7 → bad_row a k ≡ told a k
  unfolding told
  told_7 p = simp (← e, ne_eqb number 2 (omega arith), eq-eqb number 7 p)
