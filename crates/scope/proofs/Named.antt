-- The lowest bad row is named: a fault is that of the first row with something wrong, recovery tells one exactly when its journal does not read, and
-- a call tells one exactly beside 2 and 7. By one scan over rising rows, and by going through the table.
use Prim.Native.Nat.{ℕ, zero, suc, ◌+◌, ◌-◌, ◌≤◌, ◌<◌}
use mathlib.Core.Path.{◌≡◌, refl, sym, ap, ◌∙◌, subst}
use mathlib.Core.Bool.{Bool, true, false, ◌&&◌, ◌||◌, not, true≢false, false≢true}
use mathlib.Core.Logic.{◌⊎◌, inl, inr}
use mathlib.Core.List.{List, [], ◌∷◌, map}
use mathlib.Core.Option.{Option, none, some}
use native.Mathlib.Omega.{arith}
use borrow.Author.Tests.{eqb-true, eqb-false, not-true}
use lib.Dec.{ltb, eqb}
use Rattle.scope.specs.Bytes.{pick, max_no, bytes_of, number_of, number_at, put}
use Rattle.scope.specs.Row.{Entry, row_bytes, entry_of, read_row, is_entry, Reason, unknown_kind, filler_not_zero, not_update, hole, row_tests, wrong_entry, wrong_update, Fault, faultless, fault, fault_at, lowest_fault}
use Rattle.scope.specs.Keeper.{Keeper, is_run, no_state, in_range, medium_length, phase_ok, sound, row_at, cell_at, waiting_row, medium_row, head_bytes, is_head_ok, cells_of, with_state, with_medium, with_waiting, made_to, stored_next, dropped_to, first_mark, assign, append, store_cell, store_head}
use Rattle.scope.specs.Recovery.{rows_of, firstly, any_holds, entries_from, at_most, journal, fault_from, journal_fault, undo, replay, table_of, differing, all_updates, all_entries, restore, rollback}
use Rattle.scope.specs.Refusals.{Call, Format, RecoveryStart, RecoveryStep, Begin, Commit, Abort, Force, TableView, Read, WriteBack, Cut, Look, Write, lent, lent_start, unfit, not_updates, not_entries, full, used_up, any_first, is_none, tests, first_no, refusal, open_fault, waiting_fault, bad_row, told}
use Rattle.scope.specs.Calls.{commit_made, forced, forced_by, step_at, rolled_back, cleaned, act, performed}
use Rattle.scope.specs.History.{call, power_loss, happen, after, reached}
use Rattle.scope.proofs.Represents.{and_true}
use Rattle.scope.proofs.Reasons.{is_no_reason, entry_or_wrong}
use Rattle.scope.proofs.Told.{is_fault, updates_judged, rows_judged, told_nothing}
use Rattle.scope.proofs.Cases.{A, B, any_keeper}

pub faultless≢fault {ℓ} : {A : Type ℓ} {x : Reason} {m : ℕ} → faultless ≡ fault x m → A
faultless≢fault p = let z : ◌≡◌ {A = ℕ} 0 1 = cc in absurd (omega arith)

faulty : (f : Fault) → is_fault f ≡ true → (x : Reason) × (m : ℕ) × (f ≡ fault x m)
faulty faultless h = absurd (false≢true h)
faulty (fault x m) h = (x, m, refl)

-- rows are judged one by one while they hold their number
unfoldable scan : (ℕ → Bool) → (ℕ → Option Reason) → ℕ → ℕ → Fault
scan holds wrong zero n = faultless
scan holds wrong (suc count) n = pick (holds (n + 1)) (fault_at (n + 1) (wrong (n + 1)) (scan holds wrong count (n + 1))) faultless

-- what holds of row n+1, and of each after it, holds of each after n
from_next : (P : ℕ → Type 0) (n i : ℕ) → n < i → P (n + 1) → (n + 1 < i → P i) → P i
from_next P n i h p q = go (eqb i (n + 1)) refl
  where
    go : (b : Bool) → eqb i (n + 1) ≡ b → P i
    go true e = subst P (sym (eqb-true i (n + 1) e)) p
    go false e = q (let d : i ≡ n + 1 → ⊥ = eqb-false i (n + 1) e in omega arith)

-- of the `count` rows after n, row m is the lowest with something wrong, and it is x; it and those below hold their numbers
pub record LowestBad (holds : ℕ → Bool) (wrong : ℕ → Option Reason) (count n : ℕ) (x : Reason) (m : ℕ) : Type 0 where
  pub above : n < m
  pub within : m ≤ n + count
  pub held : holds m ≡ true
  pub there : wrong m ≡ some x
  pub below : (i : ℕ) → n < i → i < m → (holds i ≡ true) × (wrong i ≡ none)

-- nothing is wrong with any of the rows that are come to
abbrev pub NoneBad : (ℕ → Bool) → (ℕ → Option Reason) → ℕ → ℕ → Type 0
NoneBad holds wrong count n = (i : ℕ) → n < i → i ≤ n + count → ((j : ℕ) → n < j → j ≤ i → holds j ≡ true) → wrong i ≡ none

module _ (holds : ℕ → Bool) (wrong : ℕ → Option Reason) where
  -- a row that holds its number is judged, and one with nothing wrong is passed
  scan_held : (count n : ℕ) → holds (n + 1) ≡ true → scan holds wrong (suc count) n ≡ fault_at (n + 1) (wrong (n + 1)) (scan holds wrong count (n + 1))
  unfolding scan
  scan_held count n p = ap (λ b. pick b (fault_at (n + 1) (wrong (n + 1)) (scan holds wrong count (n + 1))) faultless) p

  scan_passed : (count n : ℕ) → holds (n + 1) ≡ true → wrong (n + 1) ≡ none → scan holds wrong (suc count) n ≡ scan holds wrong count (n + 1)
  scan_passed count n p q = scan_held count n p ∙ ap (λ w. fault_at (n + 1) w (scan holds wrong count (n + 1))) q

  scan_lowest : (count n : ℕ) (x : Reason) (m : ℕ) → scan holds wrong count n ≡ fault x m → LowestBad holds wrong count n x m
  unfolding scan
  scan_lowest zero n x m e = faultless≢fault e
  scan_lowest (suc count) n x m e = go (holds (n + 1)) (wrong (n + 1)) refl refl e (scan_lowest count (n + 1) x m)
    where
      go : (b : Bool) (w : Option Reason) → holds (n + 1) ≡ b → wrong (n + 1) ≡ w
          → pick b (fault_at (n + 1) w (scan holds wrong count (n + 1))) faultless ≡ fault x m
          → (scan holds wrong count (n + 1) ≡ fault x m → LowestBad holds wrong count (n + 1) x m) → LowestBad holds wrong (suc count) n x m
      go false w p q z ih = faultless≢fault z
      go true (some y) p q z ih =
          let f : n + 1 ≡ m = cc in let g : y ≡ x = cc in
          record {
            above = omega arith;
            within = omega arith;
            held = subst (λ i. holds i ≡ true) f p;
            there = subst (λ i. wrong i ≡ some x) f (q ∙ ap some g);
            below = λ i a b. absurd (omega arith);
          }
      go true none p q z ih =
          let l = ih z in
          record {
            above = omega (arith, l.above);
            within = omega (arith, l.within);
            held = l.held;
            there = l.there;
            below = λ i a b. from_next (λ i. i < m → (holds i ≡ true) × (wrong i ≡ none)) n i a (λ c. (p, q)) (λ c d. l.below i c d) b;
          }

  lowest_scan : (count n : ℕ) (x : Reason) (m : ℕ) → LowestBad holds wrong count n x m → scan holds wrong count n ≡ fault x m
  unfolding scan
  lowest_scan zero n x m l = absurd (omega (arith, l.above, l.within))
  lowest_scan (suc count) n x m l =
      from_next (λ i. i ≡ m → scan holds wrong (suc count) n ≡ fault x m) n m l.above
      (λ e. scan_held count n (subst (λ i. holds i ≡ true) (sym e) l.held)
      ∙ ap (λ w. fault_at (n + 1) w (scan holds wrong count (n + 1))) (subst (λ i. wrong i ≡ some x) (sym e) l.there)
      ∙ ap (fault x) e)
      (λ h e. let g = l.below (n + 1) (omega arith) h in
      scan_passed count n g.0 g.1
      ∙ lowest_scan count (n + 1) x m
      record {
        above = h;
        within = omega (arith, l.within);
        held = l.held;
        there = l.there;
        below = λ i a b. l.below i (omega arith) b;
      })
      refl

  scan_faultless : (count n : ℕ) → scan holds wrong count n ≡ faultless → NoneBad holds wrong count n
  unfolding scan
  scan_faultless zero n e i a b c = absurd (omega arith)
  scan_faultless (suc count) n e i a b c =
      go (wrong (n + 1)) refl (sym (scan_held count n (c (n + 1) (omega arith) (omega arith))) ∙ e)
      (λ z h. scan_faultless count (n + 1) z i h (omega arith) (λ j d f. c j (omega arith) f))
    where
      go : (w : Option Reason) → wrong (n + 1) ≡ w → fault_at (n + 1) w (scan holds wrong count (n + 1)) ≡ faultless
          → (scan holds wrong count (n + 1) ≡ faultless → n + 1 < i → wrong i ≡ none) → wrong i ≡ none
      go (some x) q z ih = faultless≢fault (sym z)
      go none q z ih = from_next (λ i. wrong i ≡ none) n i a q (ih z)

  faultless_scan : (count n : ℕ) → NoneBad holds wrong count n → scan holds wrong count n ≡ faultless
  unfolding scan
  faultless_scan zero n g = refl
  faultless_scan (suc count) n g =
      go (holds (n + 1)) refl (λ p. faultless_scan count (n + 1)
      (λ i a b c. g i (omega arith) (omega arith) (λ j d f. from_next (λ j. j ≤ i → holds j ≡ true) n j d (λ h. p) (λ h l. c j h l) f)))
    where
      go : (b : Bool) → holds (n + 1) ≡ b → (holds (n + 1) ≡ true → scan holds wrong count (n + 1) ≡ faultless)
          → pick b (fault_at (n + 1) (wrong (n + 1)) (scan holds wrong count (n + 1))) faultless ≡ faultless
      go false p ih = refl
      go true p ih =
          ap (λ w. fault_at (n + 1) w (scan holds wrong count (n + 1)))
          (g (n + 1) (omega arith) (omega arith) (λ j d f. let e : n + 1 ≡ j = omega arith in subst (λ j. holds j ≡ true) e p))
          ∙ ih p

-- THE LOWEST BAD ROW IS NAMED, and where none is, none is bad; both ways
abbrev always : ℕ → Bool
always i = true

lowest_is : (wrong : ℕ → Option Reason) (count n : ℕ) → lowest_fault wrong count n ≡ scan always wrong count n
unfolding lowest_fault scan
lowest_is wrong zero n = refl
lowest_is wrong (suc count) n = ap (fault_at (n + 1) (wrong (n + 1))) (lowest_is wrong count (n + 1))

module _ (wrong : ℕ → Option Reason) (count n : ℕ) where
  pub fault_lowest : (x : Reason) (m : ℕ) → lowest_fault wrong count n ≡ fault x m → LowestBad (λ i. true) wrong count n x m
  fault_lowest x m e = scan_lowest always wrong count n x m (sym (lowest_is wrong count n) ∙ e)

  pub lowest-fault : (x : Reason) (m : ℕ) → LowestBad (λ i. true) wrong count n x m → lowest_fault wrong count n ≡ fault x m
  lowest-fault x m l = lowest_is wrong count n ∙ lowest_scan always wrong count n x m l

  pub faultless_all : lowest_fault wrong count n ≡ faultless → (i : ℕ) → n < i → i ≤ n + count → wrong i ≡ none
  faultless_all e i a b = scan_faultless always wrong count n (sym (lowest_is wrong count n) ∙ e) i a b (λ j c d. refl)

  pub all_faultless : ((i : ℕ) → n < i → i ≤ n + count → wrong i ≡ none) → lowest_fault wrong count n ≡ faultless
  all_faultless g = lowest_is wrong count n ∙ faultless_scan always wrong count n (λ i a b c. g i a b)

-- THE SAME OF A STORED JOURNAL: a row is reached where it holds its number, or a later one does; one that does not hold its number is then a hole
abbrev pub holds_no : (ℕ → List ℕ) → ℕ → Bool
holds_no row n = eqb (number_at 4 0 (row n)) n

-- of the rows after n, up to the last that may count
abbrev pub later_holds : (ℕ → List ℕ) → ℕ → ℕ → Bool
later_holds row end n = any_holds row (end - n) n

abbrev pub comes_to : (ℕ → List ℕ) → ℕ → ℕ → Bool
comes_to row end n = holds_no row n || later_holds row end n

abbrev pub wrong_in : (ℕ → List ℕ) → ℕ → ℕ → Option Reason
wrong_in row cells n = pick (holds_no row n) (wrong_entry cells n (row n)) (some hole)

from_is : (row : ℕ → List ℕ) (cells left n end : ℕ) → end ≡ n + left → fault_from row cells left n ≡ scan (comes_to row end) (wrong_in row cells) left n
unfolding fault_from scan
from_is row cells zero n end e = refl
from_is row cells (suc left) n end e =
    let z : left ≡ end - (n + 1) = omega arith in
    go (holds_no row (n + 1)) (any_holds row left (n + 1)) (wrong_entry cells (n + 1) (row (n + 1))) (from_is row cells left (n + 1) end (omega arith))
    ∙ ap (λ c. pick (holds_no row (n + 1) || any_holds row c (n + 1)) (fault_at (n + 1) (wrong_in row cells (n + 1)) (scan (comes_to row end) (wrong_in row cells) left (n + 1))) faultless) z
  where
    go : (b c : Bool) (w : Option Reason) → fault_from row cells left (n + 1) ≡ scan (comes_to row end) (wrong_in row cells) left (n + 1)
        → pick b (fault_at (n + 1) w (fault_from row cells left (n + 1))) (pick c (fault hole (n + 1)) faultless)
        ≡ pick (b || c) (fault_at (n + 1) (pick b w (some hole)) (scan (comes_to row end) (wrong_in row cells) left (n + 1))) faultless
    go true c w ih = ap (fault_at (n + 1) w) ih
    go false true w ih = refl
    go false false w ih = refl

-- the last number that may count
abbrev pub last_no : ℕ → ℕ → ℕ
last_no slots h = h + at_most slots h

module _ (cells slots h : ℕ) (m : List ℕ) where
  journal_is : journal_fault cells slots h m ≡ scan (comes_to (rows_of slots m) (last_no slots h)) (wrong_in (rows_of slots m) cells) (at_most slots h) h
  unfolding journal_fault
  journal_is = from_is (rows_of slots m) cells (at_most slots h) h (last_no slots h) refl

  pub journal_fault_lowest : (x : Reason) (n : ℕ) → journal_fault cells slots h m ≡ fault x n
      → LowestBad (comes_to (rows_of slots m) (last_no slots h)) (wrong_in (rows_of slots m) cells) (at_most slots h) h x n
  journal_fault_lowest x n e = scan_lowest (comes_to (rows_of slots m) (last_no slots h)) (wrong_in (rows_of slots m) cells) (at_most slots h) h x n (sym journal_is ∙ e)

  pub lowest_journal_fault : (x : Reason) (n : ℕ)
      → LowestBad (comes_to (rows_of slots m) (last_no slots h)) (wrong_in (rows_of slots m) cells) (at_most slots h) h x n → journal_fault cells slots h m ≡ fault x n
  lowest_journal_fault x n l = journal_is ∙ lowest_scan (comes_to (rows_of slots m) (last_no slots h)) (wrong_in (rows_of slots m) cells) (at_most slots h) h x n l

  pub journal_fault-faultless : journal_fault cells slots h m ≡ faultless
      → NoneBad (comes_to (rows_of slots m) (last_no slots h)) (wrong_in (rows_of slots m) cells) (at_most slots h) h
  journal_fault-faultless e = scan_faultless (comes_to (rows_of slots m) (last_no slots h)) (wrong_in (rows_of slots m) cells) (at_most slots h) h (sym journal_is ∙ e)

  pub faultless-journal_fault : NoneBad (comes_to (rows_of slots m) (last_no slots h)) (wrong_in (rows_of slots m) cells) (at_most slots h) h
      → journal_fault cells slots h m ≡ faultless
  faultless-journal_fault g = journal_is ∙ faultless_scan (comes_to (rows_of slots m) (last_no slots h)) (wrong_in (rows_of slots m) cells) (at_most slots h) h g

-- A JOURNAL DOES NOT READ EXACTLY WHEN IT HAS A FAULT
entries_judged : (row : ℕ → List ℕ) (cells left n : ℕ) → is_none (entries_from row cells left n) ≡ is_fault (fault_from row cells left n)
unfolding entries_from fault_from
entries_judged row cells zero n = refl
entries_judged row cells (suc left) n =
    go (holds_no row (n + 1)) (any_holds row left (n + 1)) (read_row cells (n + 1) (row (n + 1))) (wrong_entry cells (n + 1) (row (n + 1))) (entry_or_wrong cells (n + 1) (row (n + 1)))
    (entries_from row cells left (n + 1)) (fault_from row cells left (n + 1)) (entries_judged row cells left (n + 1))
  where
    go : (b c : Bool) (o : Option Entry) (w : Option Reason) → is_entry o ≡ is_no_reason w → (es : Option (List Entry)) (f : Fault) → is_none es ≡ is_fault f
        → is_none (pick b (firstly o es) (pick c none (some []))) ≡ is_fault (pick b (fault_at (n + 1) w f) (pick c (fault hole (n + 1)) faultless))
    go false true o w h es f ih = refl
    go false false o w h es f ih = refl
    go true c none none h es f ih = absurd (false≢true h)
    go true c none (some x) h es f ih = refl
    go true c (some e) (some x) h es f ih = absurd (true≢false h)
    go true c (some e) none h none f ih = ih
    go true c (some e) none h (some es) f ih = ih

pub journal_judged : (cells slots h : ℕ) (m : List ℕ) → is_none (journal cells slots h m) ≡ is_fault (journal_fault cells slots h m)
unfolding journal journal_fault
journal_judged cells slots h m = entries_judged (rows_of slots m) cells (at_most slots h) h

module _ (cells slots h : ℕ) (m : List ℕ) where
  pub unread_fault : journal cells slots h m ≡ none → (x : Reason) × (n : ℕ) × (journal_fault cells slots h m ≡ fault x n)
  unread_fault p = faulty (journal_fault cells slots h m) (sym (journal_judged cells slots h m) ∙ ap is_none p)

  pub fault_unread : (x : Reason) (n : ℕ) → journal_fault cells slots h m ≡ fault x n → journal cells slots h m ≡ none
  fault_unread x n p = go (journal cells slots h m) (journal_judged cells slots h m ∙ ap is_fault p)
    where
      go : (o : Option (List Entry)) → is_none o ≡ true → o ≡ none
      go none q = refl
      go (some es) q = absurd (false≢true q)

-- where a row of the open transaction isn't its update, one is named
open_judged : (k : Keeper) → not_updates k ≡ true → is_fault (open_fault k) ≡ true
unfolding not_updates open_fault all_updates
open_judged k t =
    go (k.state.l - k.state.o) refl (and_true (is_run k.state.phase) (not (all_updates (k.state.l - k.state.o) k.state.l k)) t).1
  where
    go : (count : ℕ) → k.state.l - k.state.o ≡ count → not (all_updates count k.state.l k) ≡ true
        → is_fault (lowest_fault (λ n. wrong_update k.state.cells n (waiting_row k n)) count k.state.o) ≡ true
    go zero e h = absurd (false≢true h)
    go (suc count) e h =
        let last : k.state.o + suc count ≡ k.state.l = omega arith in
        updates_judged k (suc count) k.state.o ∙ ap (λ m. not (all_updates (suc count) m k)) last ∙ h

-- and where a row that is not stored isn't its entry
waiting_judged : (k : Keeper) → not_entries k ≡ true → is_fault (waiting_fault k) ≡ true
unfolding not_entries waiting_fault
waiting_judged k t = rows_judged k (k.state.l - k.state.f) k.state.f ∙ t

-- A FAULT IS TOLD EXACTLY BESIDE 2 AND 7
abbrev pub tells : ℕ → Bool
tells n = eqb n 2 || eqb n 7

-- where a test with such a number holds, there is a bad row
abbrev FaultyAt : Fault → List (Bool × ℕ) → Type 0
FaultyAt f [] = Unit {0}
FaultyAt f (t ∷ ts) = pick (tells t.1) (t.0 ≡ true → is_fault f ≡ true) (Unit {0}) × FaultyAt f ts

first_judges : (f : Fault) (ts : List (Bool × ℕ)) → FaultyAt f ts → tells (first_no ts) ≡ true → is_fault f ≡ true
first_judges f [] j h = absurd (false≢true h)
first_judges f (t ∷ ts) j h = go t.0 refl h (first_judges f ts j.1)
  where
    go : (b : Bool) → t.0 ≡ b → tells (pick b t.1 (first_no ts)) ≡ true → (tells (first_no ts) ≡ true → is_fault f ≡ true) → is_fault f ≡ true
    go true q h ih = subst (λ b. pick b (t.0 ≡ true → is_fault f ≡ true) (Unit {0})) h j.0 q
    go false q h ih = ih h

-- a row that reads as nothing has a fault
unread_faulty : (cells n : ℕ) (r : List ℕ) (a : Bool) → (a && not (is_entry (read_row cells n r))) ≡ true
    → is_fault (fault_at n (wrong_entry cells n r) faultless) ≡ true
unread_faulty cells n r a t =
    go (wrong_entry cells n r) (sym (entry_or_wrong cells n r) ∙ not-true (is_entry (read_row cells n r)) (and_true a (not (is_entry (read_row cells n r))) t).1)
  where
    go : (w : Option Reason) → is_no_reason w ≡ false → is_fault (fault_at n w faultless) ≡ true
    go none h = absurd (true≢false h)
    go (some x) h = refl

judges : (a : Call) (k : Keeper) → FaultyAt (bad_row a k) (tests a k)
unfolding tests bad_row
judges (Format n c) k = (tt, tt)
judges RecoveryStart k =
    let m = k.medium in
    (tt, (λ t. sym (journal_judged (number_at 4 0 m) (number_at 4 4 m) (number_at 4 8 m) m) ∙ t, tt))
judges RecoveryStep k = (tt, (tt, tt))
judges Begin k = (tt, (tt, (open_judged k, (tt, (tt, tt)))))
judges Commit k = (tt, (tt, (tt, (waiting_judged k, tt))))
judges Abort k = (tt, (tt, (open_judged k, tt)))
judges Force k =
    let s = k.state in
    (tt, (tt, (unread_faulty s.cells (s.f + 1) (waiting_row k (s.f + 1)) (ltb s.f s.l), tt)))
judges TableView k = (tt, tt)
judges (Read c) k = (tt, (tt, (tt, (tt, tt))))
judges (WriteBack c) k = (tt, (tt, (tt, (tt, tt))))
judges (Cut p) k =
    (tt, (tt, (tt, (unread_faulty k.state.cells p (medium_row k p) (not (eqb p k.state.h)), (tt, (tt, tt))))))
judges (Look n) k = (tt, (tt, (tt, tt)))
judges (Write c v) k = (tt, (tt, (tt, (tt, (tt, (tt, tt))))))

pub told_judged : (a : Call) (k : Keeper) → is_fault (told a k) ≡ tells (refusal a k)
unfolding told refusal
told_judged a k = go (tells (first_no (tests a k))) refl
  where
    go : (b : Bool) → tells (first_no (tests a k)) ≡ b → is_fault (pick b (bad_row a k) faultless) ≡ b
    go true e = first_judges (bad_row a k) (tests a k) (judges a k) e
    go false e = refl

module _ (a : Call) (k : Keeper) where
  pub tells-fault : (refusal a k ≡ 2) ⊎ (refusal a k ≡ 7) → (x : Reason) × (m : ℕ) × (told a k ≡ fault x m)
  tells-fault (inl e) = faulty (told a k) (told_judged a k ∙ ap tells e)
  tells-fault (inr e) = faulty (told a k) (told_judged a k ∙ ap tells e)

  pub tells_nothing : (refusal a k ≡ 2 → ⊥) → (refusal a k ≡ 7 → ⊥) → told a k ≡ faultless
  tells_nothing p q = sym (told_nothing a k (refusal a k) refl p q)

  pub told_bad : (x : Reason) (m : ℕ) → told a k ≡ fault x m → bad_row a k ≡ fault x m
  unfolding told
  told_bad x m e = go (tells (refusal a k)) e
    where
      go : (b : Bool) → pick b (bad_row a k) faultless ≡ fault x m → bad_row a k ≡ fault x m
      go true h = h
      go false h = faultless≢fault h

-- and what each call tells is the lowest of the rows that it judges: the stored journal, the open transaction's, those not stored, or one
one_bad : (n : ℕ) (w : Option Reason) (x : Reason) (m : ℕ) → fault_at n w faultless ≡ fault x m → (m ≡ n) × (w ≡ some x)
one_bad n none x m e = faultless≢fault e
one_bad n (some y) x m e = (cc, cc)

module _ (k : Keeper) (x : Reason) (m : ℕ) where
  pub start_tells : told RecoveryStart k ≡ fault x m
      → (let b = k.medium in let row = rows_of (number_at 4 4 b) b in
      LowestBad (comes_to row (last_no (number_at 4 4 b) (number_at 4 8 b))) (wrong_in row (number_at 4 0 b)) (at_most (number_at 4 4 b) (number_at 4 8 b)) (number_at 4 8 b) x m)
  unfolding bad_row
  start_tells e =
      let b = k.medium in
      journal_fault_lowest (number_at 4 0 b) (number_at 4 4 b) (number_at 4 8 b) b x m (told_bad RecoveryStart k x m e)

  open_tells : open_fault k ≡ fault x m
      → LowestBad (λ i. true) (λ n. wrong_update k.state.cells n (waiting_row k n)) (k.state.l - k.state.o) k.state.o x m
  unfolding open_fault
  open_tells e = fault_lowest (λ n. wrong_update k.state.cells n (waiting_row k n)) (k.state.l - k.state.o) k.state.o x m e

  pub begin_tells : told Begin k ≡ fault x m
      → LowestBad (λ i. true) (λ n. wrong_update k.state.cells n (waiting_row k n)) (k.state.l - k.state.o) k.state.o x m
  unfolding bad_row
  begin_tells e = open_tells (told_bad Begin k x m e)

  pub abort_tells : told Abort k ≡ fault x m
      → LowestBad (λ i. true) (λ n. wrong_update k.state.cells n (waiting_row k n)) (k.state.l - k.state.o) k.state.o x m
  unfolding bad_row
  abort_tells e = open_tells (told_bad Abort k x m e)

  pub commit_tells : told Commit k ≡ fault x m
      → LowestBad (λ i. true) (λ n. wrong_entry k.state.cells n (waiting_row k n)) (k.state.l - k.state.f) k.state.f x m
  unfolding bad_row waiting_fault
  commit_tells e =
      fault_lowest (λ n. wrong_entry k.state.cells n (waiting_row k n)) (k.state.l - k.state.f) k.state.f x m (told_bad Commit k x m e)

  pub force_tells : told Force k ≡ fault x m
      → (m ≡ k.state.f + 1) × (wrong_entry k.state.cells (k.state.f + 1) (waiting_row k (k.state.f + 1)) ≡ some x)
  unfolding bad_row
  force_tells e =
      one_bad (k.state.f + 1) (wrong_entry k.state.cells (k.state.f + 1) (waiting_row k (k.state.f + 1))) x m (told_bad Force k x m e)

  pub cut-tells : (p : ℕ) → told (Cut p) k ≡ fault x m → (m ≡ p) × (wrong_entry k.state.cells p (medium_row k p) ≡ some x)
  unfolding bad_row
  cut-tells p e = one_bad p (wrong_entry k.state.cells p (medium_row k p)) x m (told_bad (Cut p) k x m e)

-- WHAT IS TOLD OF DAMAGED ROWS, N = 2 and C = 4. A history, and then other bytes at places of the medium or of the waiting rows
abbrev pub damaged : List (ℕ × ℕ) → List ℕ → List ℕ
damaged [] m = m
damaged (x ∷ xs) m = damaged xs (put m x.0 (x.1 ∷ []))

abbrev pub worn : List (ℕ × ℕ) → Keeper → Keeper
worn xs k = with_medium (damaged xs k.medium) k

abbrev spoilt : List (ℕ × ℕ) → Keeper → Keeper
spoilt xs k = with_waiting (damaged xs k.waiting) k

-- not lent its current values
abbrev without : Keeper → Keeper
without k = record { medium = k.medium; current = []; first = k.first; last = k.last; waiting = k.waiting; state = k.state }

-- three updates of an open transaction, none stored
abbrev opened : Keeper
opened =
    reached 2 4 any_keeper
    (call RecoveryStart ∷ call RecoveryStep ∷ call Begin ∷ call (Write 0 A) ∷ call (Write 1 B) ∷ call (Write 0 B) ∷ [])

-- an update and its commit, stored
abbrev booked : Keeper
booked =
    reached 2 4 any_keeper
    (call RecoveryStart ∷ call RecoveryStep ∷ call Begin ∷ call (Write 0 A) ∷ call Commit ∷ call (WriteBack 0) ∷ [])

-- row 2's kind becomes 4, in the waiting rows and on the medium; row 3's filler becomes 1; row 2's update becomes a commit
abbrev kind4 : ℕ × ℕ
kind4 = (36, 4)

abbrev stored_kind4 : ℕ × ℕ
stored_kind4 = (68, 4)

abbrev filler3 : ℕ × ℕ
filler3 = (69, 1)

abbrev commit2 : List (ℕ × ℕ)
commit2 = (36, 2) ∷ (40, 0) ∷ (56, 0) ∷ (57, 0) ∷ (60, 0) ∷ (62, 0) ∷ []

pub record Telling : Type 0 where
  pub asks : Call
  pub keeper : Keeper
  pub number : ℕ
  pub names : Fault

abbrev pub heard : Telling → ℕ × Fault
heard t = (refusal t.asks t.keeper, told t.asks t.keeper)

abbrev pub expected : Telling → ℕ × Fault
expected t = (t.number, t.names)

abbrev pub tellings : List Telling
tellings =
    -- rows 2 and 3 are bad: abort and begin name 2, and with row 2 good 3
    record { asks = Abort; keeper = spoilt (kind4 ∷ filler3 ∷ []) opened; number = 7; names = fault unknown_kind 2 }
    ∷ record { asks = Begin; keeper = spoilt (kind4 ∷ filler3 ∷ []) opened; number = 7; names = fault unknown_kind 2 }
    ∷ record { asks = Abort; keeper = spoilt (filler3 ∷ []) opened; number = 7; names = fault filler_not_zero 3 }
    -- a commit among the open rows reads, and is no update
    ∷ record { asks = Abort; keeper = spoilt commit2 opened; number = 7; names = fault not_update 2 }
    -- force judges row f+1 alone, as an entry
    ∷ record { asks = Force; keeper = spoilt (kind4 ∷ []) opened; number = 0; names = faultless }
    ∷ record { asks = Force; keeper = after (call Force ∷ []) (spoilt (kind4 ∷ []) opened); number = 7; names = fault unknown_kind 2 }
    ∷ record { asks = Force; keeper = after (call Force ∷ []) (spoilt commit2 opened); number = 0; names = faultless }
    -- commit judges rows f+1 to l, each as an entry, and names the lowest bad one; with row 1 stored it is not judged
    ∷ record { asks = Commit; keeper = spoilt (kind4 ∷ filler3 ∷ []) opened; number = 7; names = fault unknown_kind 2 }
    ∷ record { asks = Commit; keeper = spoilt (filler3 ∷ []) opened; number = 7; names = fault filler_not_zero 3 }
    ∷ record { asks = Commit; keeper = spoilt commit2 opened; number = 0; names = faultless }
    ∷ record { asks = Commit; keeper = spoilt ((4, 4) ∷ []) opened; number = 7; names = fault unknown_kind 1 }
    ∷ record { asks = Commit; keeper = spoilt ((4, 4) ∷ []) (after (call Force ∷ []) opened); number = 0; names = faultless }
    ∷ record { asks = Commit; keeper = spoilt ((4, 4) ∷ []) (after (call Abort ∷ []) opened); number = 3; names = faultless }
    -- recovery start: row 1 reads and row 2 does not; both are bad; row 2 has not its number, and so ends the journal
    ∷ record { asks = RecoveryStart; keeper = worn (stored_kind4 ∷ []) booked; number = 2; names = fault unknown_kind 2 }
    ∷ record { asks = RecoveryStart; keeper = worn (stored_kind4 ∷ (37, 1) ∷ []) booked; number = 2; names = fault filler_not_zero 1 }
    ∷ record { asks = RecoveryStart; keeper = worn (stored_kind4 ∷ (64, 9) ∷ []) booked; number = 0; names = faultless }
    -- cut judges the row of p
    ∷ record { asks = Cut 2; keeper = worn (stored_kind4 ∷ (37, 1) ∷ []) booked; number = 7; names = fault unknown_kind 2 }
    ∷ record { asks = Cut 0; keeper = worn (stored_kind4 ∷ (37, 1) ∷ []) booked; number = 0; names = faultless }
    -- beside another refusal nothing is told, whatever the rows: 1, 10, 9 and 5
    ∷ record { asks = RecoveryStart; keeper = after (power_loss [] [] [] [] ∷ []) (worn (stored_kind4 ∷ []) booked); number = 1; names = faultless }
    ∷ record { asks = Abort; keeper = without (spoilt (kind4 ∷ []) opened); number = 1; names = faultless }
    ∷ record { asks = Abort; keeper = after (call RecoveryStart ∷ []) (spoilt (kind4 ∷ []) opened); number = 10; names = faultless }
    ∷ record { asks = Cut 3; keeper = worn (stored_kind4 ∷ []) booked; number = 9; names = faultless }
    ∷ record { asks = Begin; keeper = opened; number = 5; names = faultless }
    ∷ []

pub tellings_right : map heard tellings ≡ map expected tellings
unfolding max_no bytes_of number_of number_at put row_bytes entry_of read_row row_tests wrong_entry wrong_update lowest_fault in_range medium_length phase_ok sound row_at cell_at waiting_row medium_row head_bytes is_head_ok cells_of no_state with_state with_medium with_waiting made_to stored_next dropped_to first_mark assign append store_cell store_head entries_from any_holds at_most journal fault_from journal_fault undo replay table_of differing all_updates all_entries restore rollback lent lent_start unfit not_updates not_entries full used_up any_first tests refusal open_fault waiting_fault bad_row told performed commit_made forced forced_by step_at rolled_back cleaned act happen after
tellings_right = refl
