-- A hole is not the end: recovery start tells one exactly where a row does not hold its number, those before it read and a later one holds its own; by
-- the scan that names the lowest bad row. No history makes one, since no row's number is above the last stored entry's, and a stored row that is
-- lost is one unless it is the last, since those after it keep their numbers.
use Prim.Native.Nat.{ℕ, zero, suc, ◌+◌, ◌*◌, ◌-◌, ◌%◌, ◌≤◌, ◌<◌}
use mathlib.Core.Path.{◌≡◌, refl, sym, ap, ◌∙◌, subst}
use mathlib.Core.Bool.{Bool, true, false, ◌&&◌, ◌||◌, not, true≢false, false≢true}
use mathlib.Core.Logic.{inl, inr, ◌≢◌}
use mathlib.Core.List.{List, [], ◌∷◌, ◌++◌, map}
use mathlib.Core.Option.{none, some}
use native.Mathlib.Nat.{mod-lt}
use native.Mathlib.Decide.{dec_le, ℕ_discrete}
use native.Mathlib.Omega.{arith}
use borrow.Author.Tests.{leb-true, leb-false, le-leb, lt-leb, eq-eqb, ne_eqb}
use lib.Dec.{leb, eqb}
use lib.ListN.{length, take, drop, get_or, replicate}
use lib.Seq.{get_or-take, length-take-le}
use Rattle.scope.specs.Bytes.{pick, max_no, bytes_of, number_of, number_at, put}
use Rattle.scope.specs.Row.{Entry, commit_entry, row_bytes, entry_of, read_row, Reason, unknown_kind, hole, row_tests, wrong_entry, Fault, faultless, fault, reason_no}
use Rattle.scope.specs.Keeper.{Keeper, no_state, in_range, medium_length, phase_ok, sound, row_at, cell_at, waiting_row, medium_row, head_bytes, is_head_ok, cells_of, with_state, with_medium, with_waiting, made_to, stored_next, dropped_to, first_mark, assign, append, store_cell, store_head}
use Rattle.scope.specs.Recovery.{rows_of, any_holds, entries_from, at_most, journal, fault_from, journal_fault, entries_of, undo, replay, table_of, differing, all_updates, all_entries, restore, rollback}
use Rattle.scope.specs.Refusals.{RecoveryStart, RecoveryStep, Begin, Commit, Force, WriteBack, Write, lent, lent_start, unfit, not_updates, not_entries, full, used_up, any_first, is_none, tests, first_no, refusal, bad_row, told}
use Rattle.scope.specs.Calls.{commit_made, forced, forced_by, step_at, rolled_back, cleaned, act, performed}
use Rattle.scope.specs.History.{Event, call, happen, after, History, reached, transactions}
use Rattle.scope.specs.Demands.{Sized, stored_journal, NoHole}
use Rattle.scope.proofs.Cases.{A, B, any_keeper, power_lost}
use Rattle.scope.proofs.Bytes.{part_of_first, length-put, put-before, rows_apart, row_other, row_same}
use Rattle.scope.proofs.Row.{read_number}
use Rattle.scope.proofs.Reasons.{FirstWrong, some≢none, wrong_first, entry_right, right_entry}
use Rattle.scope.proofs.Told.{is_fault, told_2}
use Rattle.scope.proofs.Replay.{entries_read, entries_most}
use Rattle.scope.proofs.Medium.{Stored, stored_there, n≡, c≡, h≡, head_ok, journal≡}
use Rattle.scope.proofs.Histories.{Rest, Safe, up, down, resting}
use Rattle.scope.proofs.Demand3.{safe}
use Rattle.scope.proofs.Named.{faultless≢fault, LowestBad, holds_no, comes_to, wrong_in, last_no, journal_fault_lowest, lowest_journal_fault, journal_judged, told_bad, worn, Telling, heard, expected}

-- ONE OF THE ROWS AFTER n HOLDS ITS NUMBER, both ways
pub any-holds : (row : ℕ → List ℕ) (count n : ℕ) → any_holds row count n ≡ true → (i : ℕ) × (n < i) × (i ≤ n + count) × (holds_no row i ≡ true)
unfolding any_holds
any-holds row zero n e = absurd (false≢true e)
any-holds row (suc count) n e = go (holds_no row (n + 1)) refl e (any-holds row count (n + 1))
  where
    go : (b : Bool) → holds_no row (n + 1) ≡ b → (b || any_holds row count (n + 1)) ≡ true
        → (any_holds row count (n + 1) ≡ true → (i : ℕ) × (n + 1 < i) × (i ≤ n + 1 + count) × (holds_no row i ≡ true))
        → (i : ℕ) × (n < i) × (i ≤ n + suc count) × (holds_no row i ≡ true)
    go true p z ih = (n + 1, omega arith, omega arith, p)
    go false p z ih = let x = ih z in (x.0, omega (arith, x.1), omega (arith, x.2), x.3)

pub holds_any : (row : ℕ → List ℕ) (count n i : ℕ) → n < i → i ≤ n + count → holds_no row i ≡ true → any_holds row count n ≡ true
unfolding any_holds
holds_any row zero n i a b p = absurd (omega arith)
holds_any row (suc count) n i a b p = go (holds_no row (n + 1)) refl (λ c. holds_any row count (n + 1) i c (omega arith) p)
  where
    go : (t : Bool) → holds_no row (n + 1) ≡ t → (n + 1 < i → any_holds row count (n + 1) ≡ true) → (t || any_holds row count (n + 1)) ≡ true
    go true q ih = refl
    go false q ih =
        let d : i ≡ n + 1 → ⊥ = λ e. true≢false (sym p ∙ ap (holds_no row) e ∙ q) in ih (omega arith)

-- row i reads as its entry, and so holds its number
abbrev pub ReadsAt : (ℕ → List ℕ) → ℕ → ℕ → Type 0
ReadsAt row cells i = (e : Entry) × (read_row cells i (row i) ≡ some e)

-- A HOLE AT n, of the entries from h+1 to the last that may count: the rows before it read, its own does not hold n, and a later one holds its number
pub record Hole (row : ℕ → List ℕ) (cells last h n : ℕ) : Type 0 where
  pub above : h < n
  pub within : n ≤ last
  pub before : (i : ℕ) → h < i → i < n → ReadsAt row cells i
  pub missing : holds_no row n ≡ false
  pub later : (i : ℕ) × (n < i) × (i ≤ last) × (holds_no row i ≡ true)

-- A MALFORMED ROW n: the rows before it read, and its own holds n and has x wrong
pub record Malformed (row : ℕ → List ℕ) (cells last h : ℕ) (x : Reason) (n : ℕ) : Type 0 where
  pub above : h < n
  pub within : n ≤ last
  pub before : (i : ℕ) → h < i → i < n → ReadsAt row cells i
  pub held : holds_no row n ≡ true
  pub wrong : wrong_entry cells n (row n) ≡ some x

-- an entry's reasons are the first eight: a hole is none of them
abbrev FirstEight : List (Bool × Reason) → Type 0
FirstEight [] = Unit {0}
FirstEight (t ∷ ts) = (reason_no t.1 ≤ 8) × FirstEight ts

first_eight : (ts : List (Bool × Reason)) (x : Reason) → FirstEight ts → FirstWrong x ts → reason_no x ≤ 8
first_eight [] x f w = absurd w
first_eight (t ∷ ts) x f (inl q) = subst (λ y. reason_no y ≤ 8) q.1 f.0
first_eight (t ∷ ts) x f (inr q) = first_eight ts x f.1 q.1

pub wrong_entry_8 : (cells n : ℕ) (r : List ℕ) (x : Reason) → wrong_entry cells n r ≡ some x → reason_no x ≤ 8
unfolding row_tests
wrong_entry_8 cells n r x e =
    let f : FirstEight (row_tests cells n r)
    = (omega arith, (omega arith, (omega arith, (omega arith, (omega arith, (omega arith, (omega arith, (omega arith, tt)))))))) in
    first_eight (row_tests cells n r) x f (wrong_first cells n r x e)

module _ (row : ℕ → List ℕ) (cells last : ℕ) where
  -- a row is passed exactly where it reads
  passed_reads : (i : ℕ) → wrong_in row cells i ≡ none → ReadsAt row cells i
  passed_reads i q = go (holds_no row i) q
    where
      go : (b : Bool) → pick b (wrong_entry cells i (row i)) (some hole) ≡ none → ReadsAt row cells i
      go true q = right_entry cells i (row i) q
      go false q = some≢none q

  reads_passed : (i : ℕ) → ReadsAt row cells i → (comes_to row last i ≡ true) × (wrong_in row cells i ≡ none)
  reads_passed i r = go (holds_no row i) (read_number cells i (row i) r.0 r.1)
    where
      go : (b : Bool) → b ≡ true → ((b || any_holds row (last - i) i) ≡ true) × (pick b (wrong_entry cells i (row i)) (some hole) ≡ none)
      go true q = (refl, entry_right cells i (row i) r.0 r.1)
      go false q = absurd (false≢true q)

  module _ (count h n : ℕ) (end : last ≡ h + count) where
    lowest_hole : LowestBad (comes_to row last) (wrong_in row cells) count h hole n → Hole row cells last h n
    lowest_hole l = go (holds_no row n) refl l.held l.there
      where
        go : (b : Bool) → holds_no row n ≡ b → (b || any_holds row (last - n) n) ≡ true → pick b (wrong_entry cells n (row n)) (some hole) ≡ some hole
            → Hole row cells last h n
        go true p c w = absurd (omega (arith, wrong_entry_8 cells n (row n) hole w))
        go false p c w =
            let x = any-holds row (last - n) n c in
            record {
              above = l.above;
              within = omega (arith, l.within);
              before = λ i a b. passed_reads i (l.below i a b).1;
              missing = p;
              later = (x.0, x.1, omega (arith, x.2, l.within), x.3);
            }

    hole_lowest : Hole row cells last h n → LowestBad (comes_to row last) (wrong_in row cells) count h hole n
    hole_lowest d =
        let q = holds_any row (last - n) n d.later.0 d.later.1 (omega (arith, d.later.2, d.within)) d.later.3 in
        record {
          above = d.above;
          within = omega (arith, d.within);
          held = rw d.missing q;
          there = rw d.missing;
          below = λ i a b. reads_passed i (d.before i a b);
        }

    lowest_malformed : (x : Reason) → x ≢ hole → LowestBad (comes_to row last) (wrong_in row cells) count h x n → Malformed row cells last h x n
    lowest_malformed x ne l = go (holds_no row n) refl l.there
      where
        go : (b : Bool) → holds_no row n ≡ b → pick b (wrong_entry cells n (row n)) (some hole) ≡ some x → Malformed row cells last h x n
        go true p w =
            record {
              above = l.above;
              within = omega (arith, l.within);
              before = λ i a b. passed_reads i (l.below i a b).1;
              held = p;
              wrong = w;
            }
        go false p w = let z : hole ≡ x = cc in absurd (ne (sym z))

    malformed_lowest : (x : Reason) → Malformed row cells last h x n → LowestBad (comes_to row last) (wrong_in row cells) count h x n
    malformed_lowest x d =
        record {
          above = d.above;
          within = omega (arith, d.within);
          held = rw d.held;
          there = rw d.held d.wrong;
          below = λ i a b. reads_passed i (d.before i a b);
        }

-- A HOLE IS TOLD EXACTLY WHERE THERE IS ONE, and any other reason exactly where that row is malformed and no hole comes before it
module _ (cells slots h : ℕ) (m : List ℕ) (n : ℕ) where
  pub told-hole : journal_fault cells slots h m ≡ fault hole n → Hole (rows_of slots m) cells (last_no slots h) h n
  told-hole e = lowest_hole (rows_of slots m) cells (last_no slots h) (at_most slots h) h n refl (journal_fault_lowest cells slots h m hole n e)

  pub hole-told : Hole (rows_of slots m) cells (last_no slots h) h n → journal_fault cells slots h m ≡ fault hole n
  hole-told d = lowest_journal_fault cells slots h m hole n (hole_lowest (rows_of slots m) cells (last_no slots h) (at_most slots h) h n refl d)

  pub told-malformed : (x : Reason) → x ≢ hole → journal_fault cells slots h m ≡ fault x n → Malformed (rows_of slots m) cells (last_no slots h) h x n
  told-malformed x ne e = lowest_malformed (rows_of slots m) cells (last_no slots h) (at_most slots h) h n refl x ne (journal_fault_lowest cells slots h m x n e)

  pub malformed-told : (x : Reason) → Malformed (rows_of slots m) cells (last_no slots h) h x n → journal_fault cells slots h m ≡ fault x n
  malformed-told x d = lowest_journal_fault cells slots h m x n (malformed_lowest (rows_of slots m) cells (last_no slots h) (at_most slots h) h n refl x d)

-- the same of the call: its medium's head says N, C and h
abbrev pub HoleOf : List ℕ → ℕ → Type 0
HoleOf m n = let h = number_at 4 8 m in let slots = number_at 4 4 m in Hole (rows_of slots m) (number_at 4 0 m) (last_no slots h) h n

abbrev pub MalformedOf : List ℕ → Reason → ℕ → Type 0
MalformedOf m x n = let h = number_at 4 8 m in let slots = number_at 4 4 m in Malformed (rows_of slots m) (number_at 4 0 m) (last_no slots h) h x n

-- recovery start refuses with 2, and tells the fault x at n
abbrev pub Refuses : Keeper → Reason → ℕ → Type 0
Refuses k x n = (refusal RecoveryStart k ≡ 2) × (told RecoveryStart k ≡ fault x n)

module _ (k : Keeper) where
  -- with a fault that its journal has, whatever else, if head and workspaces are in rule
  fault_refuses : refusal RecoveryStart k ≢ 1 → (x : Reason) (n : ℕ)
      → journal_fault (number_at 4 0 k.medium) (number_at 4 4 k.medium) (number_at 4 8 k.medium) k.medium ≡ fault x n → Refuses k x n
  unfolding refusal tests bad_row
  fault_refuses in_rule x n e =
      let m = k.medium in
      let two : refusal RecoveryStart k ≡ 2
      = go (not (is_head_ok m && lent_start (number_at 4 0 m) (number_at 4 4 m) k)) (is_none (journal (number_at 4 0 m) (number_at 4 4 m) (number_at 4 8 m) m)) in_rule
      (journal_judged (number_at 4 0 m) (number_at 4 4 m) (number_at 4 8 m) m ∙ ap is_fault e) in
      (two, sym (told_2 RecoveryStart k 2 (sym two) refl) ∙ e)
    where
      go : (a b : Bool) → first_no ((a, 1) ∷ (b, 2) ∷ []) ≢ 1 → b ≡ true → first_no ((a, 1) ∷ (b, 2) ∷ []) ≡ 2
      go true b p q = absurd (p refl)
      go false true p q = refl
      go false false p q = absurd (false≢true q)

  pub start_tells_hole : (n : ℕ) → told RecoveryStart k ≡ fault hole n → HoleOf k.medium n
  unfolding bad_row
  start_tells_hole n e =
      let m = k.medium in told-hole (number_at 4 0 m) (number_at 4 4 m) (number_at 4 8 m) m n (told_bad RecoveryStart k hole n e)

  pub hole_refuses : refusal RecoveryStart k ≢ 1 → (n : ℕ) → HoleOf k.medium n → Refuses k hole n
  hole_refuses in_rule n d =
      let m = k.medium in fault_refuses in_rule hole n (hole-told (number_at 4 0 m) (number_at 4 4 m) (number_at 4 8 m) m n d)

  pub start_tells_malformed : (x : Reason) (n : ℕ) → x ≢ hole → told RecoveryStart k ≡ fault x n → MalformedOf k.medium x n
  unfolding bad_row
  start_tells_malformed x n ne e =
      let m = k.medium in told-malformed (number_at 4 0 m) (number_at 4 4 m) (number_at 4 8 m) m n x ne (told_bad RecoveryStart k x n e)

  pub malformed_refuses : refusal RecoveryStart k ≢ 1 → (x : Reason) (n : ℕ) → MalformedOf k.medium x n → Refuses k x n
  malformed_refuses in_rule x n d =
      let m = k.medium in fault_refuses in_rule x n (malformed-told (number_at 4 0 m) (number_at 4 4 m) (number_at 4 8 m) m n x d)

-- THE LAST NUMBER THAT MAY COUNT is the lesser of h + C and M
pub last_C : (slots h : ℕ) → h + slots ≤ max_no → last_no slots h ≡ h + slots
unfolding at_most max_no
last_C slots h p = rw (le-leb slots (4294967295 - h) (omega arith))

pub last_M : (slots h : ℕ) → h ≤ max_no → max_no < h + slots → last_no slots h ≡ max_no
unfolding at_most max_no
last_M slots h p q = rw (lt-leb slots (4294967295 - h) (omega arith)) (omega arith)

-- by 4 rows: far from M, and from M - 5 to M
pub last_4 : map (last_no 4) (0 ∷ 4294967290 ∷ 4294967291 ∷ 4294967292 ∷ 4294967294 ∷ 4294967295 ∷ [])
    ≡ 4 ∷ 4294967294 ∷ 4294967295 ∷ 4294967295 ∷ 4294967295 ∷ 4294967295 ∷ []
unfolding at_most max_no
last_4 = refl

-- so a hole is below both, and where h is M there is no fault
pub hole-below : (row : ℕ → List ℕ) (cells slots h n : ℕ) → Hole row cells (last_no slots h) h n → (n < h + slots) × (n < max_no)
unfolding at_most max_no
hole-below row cells slots h n d = go (leb slots (4294967295 - h)) refl d.later.2
  where
    go : (b : Bool) → leb slots (4294967295 - h) ≡ b → d.later.0 ≤ h + pick b slots (4294967295 - h) → (n < h + slots) × (n < 4294967295)
    go true e q = let p = leb-true slots (4294967295 - h) e in (omega (arith, d.above, d.later.1), omega (arith, d.above, d.later.1))
    go false e q = let p = leb-false slots (4294967295 - h) e in (omega (arith, d.above, d.later.1), omega (arith, d.above, d.later.1))

pub nothing_at_M : (cells slots : ℕ) (m : List ℕ) → journal_fault cells slots max_no m ≡ faultless
unfolding journal_fault at_most max_no fault_from
nothing_at_M cells slots m = ap (λ count. fault_from (rows_of slots m) cells count 4294967295) (go (leb slots 0) refl)
  where
    go : (b : Bool) → leb slots 0 ≡ b → pick b slots 0 ≡ 0
    go true e = omega (arith, leb-true slots 0 e)
    go false e = refl

-- NO HISTORY MAKES A HOLE, power lost anywhere: no row's number is above that of the last stored entry, so none after the journal holds its own
abbrev pub last_stored : ℕ → ℕ → List ℕ → ℕ
last_stored n c m = number_at 4 8 m + length (stored_journal n c m)

module _ (n c h : ℕ) (J : List Entry) (m : List ℕ) (D : Stored n c h J m) where
  last≡ : last_stored n c m ≡ h + length J
  last≡ = ap (λ x. x + length (stored_journal n c m)) (h≡ n c h J m D)
      ∙ ap (λ x. h + length (entries_of (journal n c x m))) (h≡ n c h J m D) ∙ ap (λ o. h + length (entries_of o)) (journal≡ n c h J m D)

  stored_numbers : (j : ℕ) → j < c → number_at 4 0 (take 32 (drop (32 + 32 * j) m)) ≤ last_stored n c m
  stored_numbers j b = subst (λ x. number_at 4 0 (take 32 (drop (32 + 32 * j) m)) ≤ x) (sym last≡) (D.numbers j b)

  stored-faultless : journal_fault (number_at 4 0 m) (number_at 4 4 m) (number_at 4 8 m) m ≡ faultless
  stored-faultless = rw (n≡ n c h J m D, c≡ n c h J m D, h≡ n c h J m D) (go (journal_fault n c h m) (sym (journal_judged n c h m) ∙ ap is_none (journal≡ n c h J m D)))
    where
      go : (f : Fault) → is_fault f ≡ false → f ≡ faultless
      go faultless q = refl
      go (fault x i) q = absurd (true≢false q)

module _ (n c : ℕ) (k : Keeper) (es : List Event) (past : History n c k es) where
  kept : Rest n c (reached n c k es).medium (transactions n c k es)
  kept = resting n c (reached n c k es) (transactions n c k es) (safe n c k es past)

  pub no_number_above : (j : ℕ) → j < c
      → (let m = (reached n c k es).medium in number_at 4 0 (take 32 (drop (32 + 32 * j) m)) ≤ last_stored n c m)
  no_number_above = stored_numbers n c kept.h kept.J (reached n c k es).medium kept.there

  pub none_holds_above : (i : ℕ) → (let m = (reached n c k es).medium in last_stored n c m < i → holds_no (rows_of c m) i ≡ false)
  unfolding row_at
  none_holds_above i a =
      ne_eqb (number_at 4 0 (rows_of c (reached n c k es).medium i)) i
      (λ e. omega (arith, no_number_above ((i - 1) % c) (mod-lt (i - 1) (omega (arith, kept.there.c≥)))))

  unfaulted : (let m = (reached n c k es).medium in journal_fault (number_at 4 0 m) (number_at 4 4 m) (number_at 4 8 m) m ≡ faultless)
  unfaulted = stored-faultless n c kept.h kept.J (reached n c k es).medium kept.there

  pub no_hole : (i : ℕ) → HoleOf (reached n c k es).medium i → ⊥
  no_hole i d =
      let m = (reached n c k es).medium in
      faultless≢fault (sym unfaulted ∙ hole-told (number_at 4 0 m) (number_at 4 4 m) (number_at 4 8 m) m i d)

  -- and while the keeper has a state, that entry is f
  pub last-stored-f : sound (reached n c k es).state ≡ true → last_stored n c (reached n c k es).medium ≡ (reached n c k es).state.f
  unfolding sound in_range no_state
  last-stored-f s = go (safe n c k es past)
    where
      k' : Keeper
      k' = reached n c k es

      go : Safe n c k' (transactions n c k es) → last_stored n c k'.medium ≡ k'.state.f
      go (down e r) = absurd (false≢true (sym (ap sound e) ∙ s))
      go (up l) =
          let s = k'.state in let g = l.good in let J = take (s.f - s.h) l.J in
          let D : Stored n c s.h J k'.medium
          = subst (λ x. Stored x c s.h J k'.medium) l.cells≡ (subst (λ x. Stored s.cells x s.h J k'.medium) l.slots≡ (stored_there k' l.J g)) in
          last≡ n c s.h J k'.medium D
          ∙ omega (arith, length-take-le (s.f - s.h) l.J (omega (arith, g.count, g.fine.f≤l)), g.fine.h≤f)

-- NO HISTORY MAKES A HOLE
pub no_fault : NoHole
no_fault n c k es past = unfaulted n c k es past

-- WHAT IT CATCHES: a stored row other than the last is lost, whatever stands there now, and the other stored rows stay
module _ (n c h : ℕ) (J : List Entry) (m : List ℕ) (D : Stored n c h J m) where
  most : length J ≤ at_most c h
  unfolding journal
  most = entries_most (rows_of c m) n (at_most c h) h J (journal≡ n c h J m D)

  pub lost-row : (i : ℕ) → i + 1 < length J → (m' : List ℕ) → holds_no (rows_of c m') (h + i + 1) ≡ false
      → ((j : ℕ) → j < length J → j ≢ i → rows_of c m' (h + j + 1) ≡ rows_of c m (h + j + 1)) → journal_fault n c h m' ≡ fault hole (h + i + 1)
  unfolding row_at
  lost-row i inner m' gone stay =
      hole-told n c h m' (h + i + 1)
      (record {
        above = omega arith;
        within = omega (arith, most);
        before = λ x a b. let j : ℕ = x - h - 1 in let e : h + j + 1 ≡ x = omega arith in
            subst (ReadsAt (rows_of c m') n) e (reads j (omega arith) (λ q. omega arith));
        missing = gone;
        later = (let r = reads (i + 1) inner (λ q. omega arith) in
            (h + (i + 1) + 1, omega arith, omega (arith, most), read_number n (h + (i + 1) + 1) (rows_of c m' (h + (i + 1) + 1)) r.0 r.1));
      })
    where
      reads : (j : ℕ) → j < length J → j ≢ i → ReadsAt (rows_of c m') n (h + j + 1)
      reads j b ne = (get_or J j commit_entry, ap (read_row n (h + j + 1)) (stay j b ne) ∙ D.rows j b)

-- so a start on it, with workspaces in rule, is refused
module _ (n c h : ℕ) (J : List Entry) (m : List ℕ) (D : Stored n c h J m) (g : Keeper) (head-same : take 32 g.medium ≡ take 32 m)
    (long_same : length g.medium ≡ length m) (sized : Sized n c g)
  where
    part_same : (i j : ℕ) → i + j ≤ 32 → number_at j i g.medium ≡ number_at j i m
    unfolding number_at
    part_same i j p =
        ap number_of (part_of_first i j 32 g.medium p (omega (arith, D.medium#)) ∙ ap (λ x. take j (drop i x)) head-same
        ∙ sym (part_of_first i j 32 m p (omega (arith, D.medium#))))

    n-same : number_at 4 0 g.medium ≡ n
    n-same = part_same 0 4 (omega arith) ∙ n≡ n c h J m D

    c-same : number_at 4 4 g.medium ≡ c
    c-same = part_same 4 4 (omega arith) ∙ c≡ n c h J m D

    h-same : number_at 4 8 g.medium ≡ h
    h-same = part_same 8 4 (omega arith) ∙ h≡ n c h J m D

    in_rule : refusal RecoveryStart g ≢ 1
    unfolding refusal tests lent_start
    in_rule =
        let ok : is_head_ok g.medium ≡ true = unfold is_head_ok in
        rw (part_same 0 4 (omega arith), part_same 4 4 (omega arith), part_same 12 20 (omega arith), long_same) (head_ok n c h J m D) in
        rw (
          ok,
          n-same,
          c-same,
          eq-eqb (length g.current) n sized.0,
          eq-eqb (length g.first) n sized.1,
          eq-eqb (length g.last) n sized.2,
          eq-eqb (length g.waiting) (32 * c) sized.3,
        )
        (go (is_none (journal n c (number_at 4 8 g.medium) g.medium)))
      where
        go : (b : Bool) → first_no ((b, 2) ∷ []) ≢ 1
        go true e = omega arith
        go false e = omega arith

    stored_refuses : (x : Reason) (e : ℕ) → journal_fault n c h g.medium ≡ fault x e → Refuses g x e
    stored_refuses x e f = fault_refuses g in_rule x e ((λ i. journal_fault (n-same i) (c-same i) (h-same i) g.medium) ∙ f)

-- A ROW WIPED: the 32 bytes of the row of entry x become zeros
abbrev pub wiped : ℕ → ℕ → List ℕ → List ℕ
wiped c x m = put m (32 + row_at c x) (replicate 32 0)

module _ (c x : ℕ) (m : List ℕ) (pos : 0 < c) (long : 32 + 32 * c ≤ length m) where
  fits : 32 + row_at c x + length (replicate {A = ℕ} 32 0) ≤ length m
  unfolding row_at
  fits = omega (arith, mod-lt (x - 1) {m = c} pos)

  wiped_head : take 32 (wiped c x m) ≡ take 32 m
  wiped_head = put-before m (replicate 32 0) (32 + row_at c x) fits 0 32 (omega arith)

  wiped_long : length (wiped c x m) ≡ length m
  wiped_long = length-put m (replicate 32 0) (32 + row_at c x) fits

  wiped_other : (y : ℕ) → (y - 1) % c ≢ (x - 1) % c → rows_of c (wiped c x m) y ≡ rows_of c m y
  unfolding row_at
  wiped_other y ne = row_other 32 c (y - 1) (x - 1) m (replicate 32 0) pos long refl ne

  wiped_same : (y : ℕ) → 0 < y → (y - 1) % c ≡ (x - 1) % c → holds_no (rows_of c (wiped c x m)) y ≡ false
  unfolding row_at number_at number_of
  wiped_same y lt e =
      ap (λ a. eqb (number_at 4 0 (take 32 (drop (32 + 32 * a) (wiped c x m)))) y) e
      ∙ ap (λ r. eqb (number_at 4 0 r) y) (row_same 32 c (x - 1) m (replicate 32 0) pos long refl) ∙ ne_eqb 0 y (λ z. omega arith)

module _ (n c h : ℕ) (J : List Entry) (m : List ℕ) (D : Stored n c h J m) where
  pos : 0 < c
  pos = omega (arith, D.c≥)

  long : 32 + 32 * c ≤ length m
  long = omega (arith, D.medium#)

  apart : (i j : ℕ) → i < length J → j < length J → j ≢ i → (h + j + 1 - 1) % c ≢ (h + i + 1 - 1) % c
  apart i j a b ne = go (dec_le j i)
    where
      go : Dec (j ≤ i) → (h + j + 1 - 1) % c ≢ (h + i + 1 - 1) % c
      go (yes p) = rows_apart c (h + j + 1 - 1) (h + i + 1 - 1) (omega arith) (omega (arith, D.room))
      go (no p) = λ q. rows_apart c (h + i + 1 - 1) (h + j + 1 - 1) (omega arith) (omega (arith, D.room)) (sym q)

  -- one before the last is a hole
  pub wiped_hole : (i : ℕ) → i + 1 < length J → journal_fault n c h (wiped c (h + i + 1) m) ≡ fault hole (h + i + 1)
  wiped_hole i inner =
      lost-row n c h J m D i inner (wiped c (h + i + 1) m) (wiped_same c (h + i + 1) m pos long (h + i + 1) (omega arith) refl)
      (λ j b ne. wiped_other c (h + i + 1) m pos long (h + j + 1) (apart i j (omega arith) b ne))

  pub wiped_refuses : (i : ℕ) → i + 1 < length J → (g : Keeper) → g.medium ≡ wiped c (h + i + 1) m → Sized n c g → Refuses g hole (h + i + 1)
  wiped_refuses i inner g e sized =
      stored_refuses n c h J m D g (ap (take 32) e ∙ wiped_head c (h + i + 1) m pos long) (ap length e ∙ wiped_long c (h + i + 1) m pos long) sized
      hole (h + i + 1) (ap (journal_fault n c h) e ∙ wiped_hole i inner)

  -- and with the last the journal ends before it: no row tells that there was one
  pub wiped_last : (i : ℕ) → i + 1 ≡ length J → journal n c h (wiped c (h + i + 1) m) ≡ some (take i J)
  unfolding journal row_at
  wiped_last i last =
      let l : length (take i J) ≡ i = length-take-le i J (omega arith) in
      entries_read (rows_of c (wiped c (h + i + 1) m)) n (at_most c h) h (take i J) (omega (arith, l, most n c h J m D))
      (λ j b. ap (read_row n (h + j + 1)) (wiped_other c (h + i + 1) m pos long (h + j + 1) (apart i j (omega arith) (omega (arith, l)) (λ e. omega (arith, l))))
      ∙ D.rows j (omega (arith, l)) ∙ ap some (sym (get_or-take i J j commit_entry (omega (arith, l)))))
      (λ y a b. let a' : h + i < y = omega (arith, l) in go y a' (ℕ_discrete ((y - 1) % c) ((h + i + 1 - 1) % c)))
    where
      go : (y : ℕ) → h + i < y → Dec ((y - 1) % c ≡ (h + i + 1 - 1) % c) → holds_no (rows_of c (wiped c (h + i + 1) m)) y ≡ false
      go y a (yes e) = wiped_same c (h + i + 1) m pos long y (omega arith) e
      go y a (no ne) =
          ap (λ r. eqb (number_at 4 0 r) y) (wiped_other c (h + i + 1) m pos long y ne)
          ∙ ne_eqb (number_at 4 0 (rows_of c m y)) y (λ z. ne (ap (λ x. (x - 1) % c) (equal y a z)))
        where
          equal : (y : ℕ) → h + i < y → number_at 4 0 (rows_of c m y) ≡ y → y ≡ h + i + 1
          equal y a z = omega (arith, D.numbers ((y - 1) % c) (mod-lt (y - 1) pos))

-- whatever came before: of a history's medium any stored row but the last, wiped, or lost so that it does not hold its number
module _ (n c : ℕ) (k : Keeper) (es : List Event) (past : History n c k es) (x : ℕ) where
  pub wiped_told : (let m = (reached n c k es).medium in number_at 4 8 m < x → x < last_stored n c m
      → (g : Keeper) → g.medium ≡ wiped c x m → Sized n c g → Refuses g hole x)
  wiped_told a b g e sized =
      let m = (reached n c k es).medium in let r = kept n c k es past in
      let i : ℕ = x - r.h - 1 in let p = h≡ n c r.h r.J m r.there in let q : r.h + i + 1 ≡ x = omega (arith, p) in
      subst (Refuses g hole) q
      (wiped_refuses n c r.h r.J m r.there i (omega (arith, p, last≡ n c r.h r.J m r.there))
      g (e ∙ ap (λ y. wiped c y m) (sym q)) sized)

  pub lost-told : (let m = (reached n c k es).medium in number_at 4 8 m < x → x < last_stored n c m
      → (g : Keeper) → take 32 g.medium ≡ take 32 m → length g.medium ≡ length m → holds_no (rows_of c g.medium) x ≡ false
      → ((y : ℕ) → number_at 4 8 m < y → y ≤ last_stored n c m → y ≢ x → rows_of c g.medium y ≡ rows_of c m y) → Sized n c g → Refuses g hole x)
  lost-told a b g head-same long_same gone stay sized =
      let m = (reached n c k es).medium in let r = kept n c k es past in let D = r.there in
      let i : ℕ = x - r.h - 1 in let p = h≡ n c r.h r.J m D in let l = last≡ n c r.h r.J m D in let q : r.h + i + 1 ≡ x = omega (arith, p) in
      stored_refuses n c r.h r.J m D g head-same long_same sized hole x
      (subst (λ y. journal_fault n c r.h g.medium ≡ fault hole y) q
      (lost-row n c r.h r.J m D i (omega (arith, p, l)) g.medium (subst (λ y. holds_no (rows_of c g.medium) y ≡ false) (sym q) gone)
      (λ j b ne. stay (r.h + j + 1) (omega (arith, p)) (omega (arith, l)) (λ z. ne (omega arith)))))

-- WHAT IS TOLD OF MEDIA WITH LOST ROWS, N = 2 and C = 4. Case 5's medium: rows 1 to 3 are stored, and h is 0
abbrev three : Keeper
three =
    reached 2 4 any_keeper (call RecoveryStart ∷ call RecoveryStep ∷ call Begin ∷ call (Write 0 A) ∷ call Commit
    ∷ call Begin ∷ call (Write 0 B) ∷ call Force ∷ call (WriteBack 0) ∷ power_lost ∷ [])

-- case 6's: row 4 too; and case 7's: recovered, so that h is 3
abbrev four : Keeper
four =
    reached 2 4 any_keeper (call RecoveryStart ∷ call RecoveryStep ∷ call Begin ∷ call (Write 0 A) ∷ call Commit
    ∷ call Begin ∷ call (Write 0 B) ∷ call Force ∷ call (WriteBack 0) ∷ call Commit ∷ power_lost ∷ [])

abbrev ended : Keeper
ended = after (call RecoveryStart ∷ call RecoveryStep ∷ call RecoveryStep ∷ power_lost ∷ []) three

-- the number of the row of n becomes x
abbrev numbered : ℕ → ℕ → ℕ × ℕ
numbered n x = (32 * n, x)

-- its kind becomes 4
abbrev kind4 : ℕ → ℕ × ℕ
kind4 n = (32 * n + 4, 4)

-- the head's h becomes x + 16777216 * 255 + 65536 * 255 + 256 * 255
abbrev near : ℕ → List (ℕ × ℕ)
near x = (8, x) ∷ (9, 255) ∷ (10, 255) ∷ (11, 255) ∷ []

-- the number of the row of 3 becomes so too
abbrev row3_near : ℕ → List (ℕ × ℕ)
row3_near x = (96, x) ∷ (97, 255) ∷ (98, 255) ∷ (99, 255) ∷ []

abbrev starts : Keeper → List (ℕ × ℕ) → ℕ → Fault → Telling
starts k xs number names = record { asks = RecoveryStart; keeper = worn xs k; number = number; names = names }

abbrev pub holes : List Telling
holes =
    starts three [] 0 faultless
    -- row 1, or row 2, has not its number, and a later row has its own
    ∷ starts three (numbered 1 0 ∷ []) 2 (fault hole 1)
    ∷ starts three (numbered 2 0 ∷ []) 2 (fault hole 2)
    ∷ starts three (numbered 2 6 ∷ []) 2 (fault hole 2)
    ∷ starts four (numbered 2 0 ∷ numbered 3 0 ∷ []) 2 (fault hole 2)
    -- a malformed row before the hole is named first, and one after it holds its number none the less
    ∷ starts three (kind4 1 ∷ numbered 2 0 ∷ []) 2 (fault unknown_kind 1)
    ∷ starts three (numbered 2 0 ∷ kind4 3 ∷ []) 2 (fault hole 2)
    ∷ starts four (kind4 2 ∷ numbered 3 0 ∷ []) 2 (fault unknown_kind 2)
    -- where no later row has its number, the journal ends
    ∷ starts three (numbered 3 0 ∷ []) 0 faultless
    ∷ starts three (numbered 2 0 ∷ numbered 3 0 ∷ []) 0 faultless
    ∷ starts three (numbered 1 0 ∷ numbered 2 0 ∷ numbered 3 0 ∷ []) 0 faultless
    -- a later number counts at its own place alone, and up to h + C: 7 does not where h is 0, and does where h is 3
    ∷ starts three (numbered 2 0 ∷ numbered 3 4 ∷ []) 0 faultless
    ∷ starts three (numbered 2 0 ∷ numbered 3 7 ∷ []) 0 faultless
    ∷ starts ended [] 0 faultless
    ∷ starts ended (numbered 3 7 ∷ []) 2 (fault hole 4)
    ∷ starts ended (numbered 2 7 ∷ []) 0 faultless
    -- h at M - 2: M counts, in the row of 3; at M nothing does
    ∷ starts three (near 253 ++ row3_near 255) 2 (fault hole 4294967294)
    ∷ starts three (near 253 ++ row3_near 254) 0 faultless
    ∷ starts three (near 255 ++ row3_near 255) 0 faultless
    ∷ []

pub holes_right : map heard holes ≡ map expected holes
unfolding max_no bytes_of number_of number_at put row_bytes entry_of read_row row_tests wrong_entry in_range medium_length phase_ok sound row_at cell_at waiting_row medium_row head_bytes is_head_ok cells_of no_state with_state with_medium with_waiting made_to stored_next dropped_to first_mark assign append store_cell store_head entries_from any_holds at_most journal fault_from journal_fault undo replay table_of differing all_updates all_entries restore rollback lent lent_start unfit not_updates not_entries full used_up any_first tests refusal bad_row told performed commit_made forced forced_by step_at rolled_back cleaned act happen after
holes_right = refl
