-- What a refusal tells of rows is what the papers' definitions say of the keeper: the waiting rows and the medium's rows are the keeper's, and
-- beside a number that is neither 2 nor 7 nothing is told.
use Prim.Native.Nat.{ℕ, zero, suc, ◌+◌, ◌-◌, ◌≤◌, ◌<◌}
use mathlib.Core.Path.{◌≡◌, refl, sym, ap, ◌∙◌}
use mathlib.Core.Bool.{Bool, true, false, ◌&&◌, ◌||◌, not, and-false, false≢true}
use mathlib.Core.List.{List, [], ◌∷◌, ◌++◌}
use mathlib.Core.Option.{Option, some}
use native.Mathlib.Nat.{zero-add}
use native.Mathlib.Omega.{arith}
use borrow.Author.Tests.{lt-ltb, le-ltb, ne_eqb}
use lib.Dec.{eqb, ltb}
use Rattle.std.specs.Prelude.{Result, Ok, Err, IsErrAnd}
use Rattle.scope.specs.Bytes.{pick}
use Rattle.scope.specs.Row.{Entry, is_entry, is_update, Reason, Fault, faultless, fault, fault_at, lowest_fault}
use Rattle.scope.specs.Keeper.{Keeper, is_run, sound, waiting_row, medium_row}
use Rattle.scope.specs.Recovery.{all_updates}
use Rattle.scope.specs.Refusals.{Call, Begin, Commit, Abort, Force, Cut, lent, not_updates, not_entries, tests, first_no, refusal, open_fault, waiting_fault, bad_row, told}
use Rattle.scope.proofs.Refusals.{Numbered, tests-numbered}
use Rattle.scope.proofs.Told.{is_fault, updates_judged, rows_judged}
use Rattle.row.specs.Row.{fault_in}
use Rattle.row.specs.declared.Fault as faults
use Rattle.state.specs.State.{phase_of, state_of}
use Rattle.state.specs.declared.Numbers.{Numbers}
use Rattle.state.specs.declared.Phase as code
use Rattle.state.specs.Lent.{lent_to}
use Rattle.answer.specs.Answer.{number_of, told_with}
use Rattle.answer.specs.declared.Refusal.{Refusal}
use Rattle.answer.specs.declared.Refusal.TheVariants.{BadRow, NotACut}
use Rattle.answer.proofs.Refusals.{number-above}
use Rattle.journal.specs.Entries.{entry_in, wrong_in}
use Rattle.workspace.specs.Values.{wrong_update_in, wrong_due}
use Rattle.workspace.specs.declared.Due.TheVariants.{Entries, Updates}
use Rattle.workspace.proofs.Alike.{waiting_wrong, waiting_unread}
use Rattle.refusal.specs.Judges.{Judges, Asks, Tells, row_no, ready_tests, room_tests}
use Rattle.refusal.specs.Rows.{open_fault_in, moved_no, moved_fault}
use Rattle.refusal.proofs.Asking.{early, late, handed-on, go_on, judged, stopped, ended, holds, none_holds}
use Rattle.refusal.proofs.Tables.{force_tests, range_tests, moved_tests, dirty_tests, begin_table, force_table, cut_table}

-- rows that are judged last

row_number : (w : Fault) → row_no w ≡ pick (is_fault w) 7 0
row_number faultless = refl
row_number (fault x n) = refl

module _ {S T : Type 0} (a : Call) (k : Keeper) (xs : List (Bool × ℕ)) (b : Bool) (e : (xs ++ (b, 7) ∷ []) ≡ tests a k) where
  pub told_last : (v : S) (r : Result T Refusal) (w : Fault) → Numbered xs → Asks {T = S} (Ok v) xs → Tells r w → is_fault w ≡ b → (true ≡ is_fault w → w ≡ bad_row a k) → Judges r a k
  unfolding refusal told
  told_last v r w n s t q h =
      let z : row_no w ≡ refusal a k =
      row_number w ∙ ap (λ c. pick c 7 0) q ∙ late xs ((b, 7) ∷ []) n (sym s.number) ∙ ap first_no e in
      record { number = t.number ∙ z; fault = t.fault ∙ go w h ∙ ap (λ m. pick (eqb m 2 || eqb m 7) (bad_row a k) faultless) z }
    where
      go : (w : Fault) → (true ≡ is_fault w → w ≡ bad_row a k) → w ≡ pick (eqb (row_no w) 2 || eqb (row_no w) 7) (bad_row a k) faultless
      go faultless g = refl
      go (fault x m) g = g refl

-- the open transaction's rows

module _ (n : Numbers) (p : code.Phase) (medium current first last waiting : List ℕ) where
  k : Keeper
  k = lent_to n p medium current first last waiting

  in_keeper : lowest_fault (wrong_update_in waiting n.slots n.cells) (n.l - n.o) n.o ≡ open_fault k
  unfolding open_fault lent_to state_of k
  in_keeper = sym (λ i. lowest_fault (λ m. waiting_wrong (lent_to n p medium current first last waiting) m i) (n.l - n.o) n.o)

  -- up to l, where o is not above it; else there are none
  up_to : all_updates (n.l - n.o) (n.o + (n.l - n.o)) k ≡ all_updates (n.l - n.o) n.l k
  unfolding all_updates
  up_to = go (n.l - n.o) refl
    where
      go : (c : ℕ) → n.l - n.o ≡ c → all_updates c (n.o + c) k ≡ all_updates c n.l k
      go zero e = refl
      go (suc c) e = let z : n.o + suc c ≡ n.l = omega arith in ap (λ m. all_updates (suc c) m k) z

  judges : is_fault (open_fault k) ≡ not (all_updates (n.l - n.o) n.l k)
  unfolding open_fault lent_to state_of k
  judges = updates_judged k (n.l - n.o) n.o ∙ ap not up_to

  pub found_bad : is_fault (open_fault_in n p waiting) ≡ not_updates (lent_to n p medium current first last waiting)
  unfolding open_fault_in not_updates lent_to state_of k
  found_bad = go (is_run (phase_of p))
    where
      go : (b : Bool) → is_fault (pick b (lowest_fault (wrong_update_in waiting n.slots n.cells) (n.l - n.o) n.o) faultless)
          ≡ (b && not (all_updates (n.l - n.o) n.l k))
      go true = ap is_fault in_keeper ∙ judges
      go false = refl

  pub abort_names : true ≡ is_fault (open_fault_in n p waiting) → open_fault_in n p waiting ≡ bad_row Abort (lent_to n p medium current first last waiting)
  unfolding open_fault_in bad_row k
  abort_names = go (is_run (phase_of p))
    where
      go : (b : Bool) → true ≡ is_fault (pick b (lowest_fault (wrong_update_in waiting n.slots n.cells) (n.l - n.o) n.o) faultless)
          → pick b (lowest_fault (wrong_update_in waiting n.slots n.cells) (n.l - n.o) n.o) faultless ≡ open_fault k
      go true h = in_keeper
      go false h = absurd (false≢true (sym h))

  -- begin, after abort

  module _ {S T : Type 0} where
    pub begin_stopped : (x : Refusal) (r : Result T Refusal) → IsErrAnd r (λ y. y ≡ x) → Judges {T = S} (Err x) Abort (lent_to n p medium current first last waiting)
        → Judges r Begin (lent_to n p medium current first last waiting)
    unfolding refusal told bad_row k
    begin_stopped x r i j =
        let z : refusal Abort k ≡ refusal Begin k =
        early (tests Abort k) (room_tests n p) (λ z. number-above x (j.number ∙ z)) ∙ ap first_no (begin_table n p medium current first last waiting) in
        rw (handed-on x r i) (record { number = j.number ∙ z; fault = j.fault ∙ ap (λ m. pick (eqb m 2 || eqb m 7) (open_fault k) faultless) z })

    pub begin_ended : (v : S) (r : Result T Refusal) → Judges {T = S} (Ok v) Abort (lent_to n p medium current first last waiting) → Asks r (room_tests n p)
        → Judges r Begin (lent_to n p medium current first last waiting)
    unfolding refusal k
    begin_ended v r j s =
        judged Begin k r
        (s.number ∙ late (tests Abort k) (room_tests n p) (tests-numbered Abort k) (sym j.number) ∙ ap first_no (begin_table n p medium current first last waiting))
        s.fault

pub open_none : (n : Numbers) (p : code.Phase) (waiting : List ℕ) → is_run (phase_of p) ≡ false → faultless ≡ open_fault_in n p waiting
unfolding open_fault_in
open_none n p waiting z = simp z

pub open_run : (n : Numbers) (p : code.Phase) (waiting : List ℕ) → is_run (phase_of p) ≡ true
    → lowest_fault (wrong_due Updates waiting n.slots n.cells) (n.l - n.o) n.o ≡ open_fault_in n p waiting
unfolding open_fault_in wrong_due
open_run n p waiting z = simp z

-- the rows that commit would store

module _ (n : Numbers) (p : code.Phase) (medium waiting : List ℕ) where
  to_store : lowest_fault (wrong_due Entries waiting n.slots n.cells) (n.l - n.f) n.f ≡ waiting_fault (lent_to n p medium [] [] [] waiting)
  unfolding waiting_fault wrong_due lent_to state_of
  to_store = sym (λ i. lowest_fault (λ j. waiting_unread (lent_to n p medium [] [] [] waiting) j i) (n.l - n.f) n.f)

  pub to_judge : is_fault (lowest_fault (wrong_due Entries waiting n.slots n.cells) (n.l - n.f) n.f) ≡ not_entries (lent_to n p medium [] [] [] waiting)
  unfolding not_entries waiting_fault lent_to state_of
  to_judge = ap is_fault to_store ∙ rows_judged (lent_to n p medium [] [] [] waiting) (n.l - n.f) n.f

  pub commit_names : lowest_fault (wrong_due Entries waiting n.slots n.cells) (n.l - n.f) n.f ≡ bad_row Commit (lent_to n p medium [] [] [] waiting)
  unfolding bad_row
  commit_names = to_store

-- force's row

module _ {T : Type 0} (n : Numbers) (waiting : List ℕ) (v : T) where
  pub force_none : n.l ≤ n.f → Asks (Ok v) (force_tests n waiting)
  force_none h = none_holds _ 7 v (simp (le-ltb n.f n.l h))

  pub force_entry : true ≡ is_entry (entry_in waiting 0 n.slots n.cells (n.f + 1)) → Asks (Ok v) (force_tests n waiting)
  force_entry i = none_holds _ 7 v (simp (← i, and-false))

pub force_bad : {S T : Type 0} (n : Numbers) (p : code.Phase) (m waiting : List ℕ) (fit : Bool) (v : S) (w : faults.Fault)
    → fit ≡ (sound (state_of n p) && lent Commit (lent_to n p m [] [] [] waiting)) → Asks {T = S} (Ok v) (ready_tests fit p) → n.f < n.l
    → false ≡ is_entry (entry_in waiting 0 n.slots n.cells (n.f + 1)) → fault_in w ≡ bad_row Force (lent_to n p m [] [] [] waiting)
    → Judges {T = T} (Err (BadRow w)) Force (lent_to n p m [] [] [] waiting)
force_bad n p m waiting fit v w e s h i q =
    told_last Force _ (ready_tests fit p) _ (force_table n p m [] [] [] waiting fit e) v (Err (BadRow w)) (fault_in w) (omega arith) s
    (record { number = refl; fault = refl }) (simp (lt-ltb n.f n.l h, ← i)) (λ t. q)

pub force_names : (n : Numbers) (p : code.Phase) (m waiting : List ℕ) (o : Option Reason) → o ≡ wrong_in waiting 0 n.slots n.cells (n.f + 1)
    → fault_at (n.f + 1) o faultless ≡ bad_row Force (lent_to n p m [] [] [] waiting)
unfolding bad_row lent_to state_of wrong_in waiting_row
force_names n p m waiting o e = rw e (rw zero-add)

-- cut's row

module _ (h p : ℕ) (e : Option Entry) where
  moved_7_9 : (number : ℕ) → number ≡ moved_no h p e → number ≡ 2 → ⊥
  unfolding moved_no
  moved_7_9 number q z = go (not (eqb p h) && not (is_entry e)) (not (eqb p h) && is_update e) (sym z ∙ q)
    where
      go : (s t : Bool) → ◌≡◌ {A = ℕ} 2 (pick s 7 (pick t 9 0)) → ⊥
      go true t u = omega arith
      go false true u = omega arith
      go false false u = omega arith

pub cut-says : (n : Numbers) (p : code.Phase) (q : ℕ) (m first : List ℕ) (x : Refusal)
    → number_of x ≡ moved_no n.h q (entry_in m 32 n.slots n.cells q) → told_with x ≡ moved_fault (number_of x) q (wrong_in m 32 n.slots n.cells q)
    → number_of x ≡ refusal (Cut q) (lent_to n p m [] first [] [])
    → told_with x ≡ told (Cut q) (lent_to n p m [] first [] [])
unfolding told bad_row moved_fault lent_to state_of wrong_in medium_row
cut-says n p q m first x e f z =
    f ∙ go (number_of x) (moved_7_9 n.h q _ (number_of x) e) ∙ ap (λ x. pick (eqb x 2 || eqb x 7) (fault_at q (wrong_in m 32 n.slots n.cells q) faultless) faultless) z
  where
    go : (x : ℕ) → (x ≡ 2 → ⊥) → pick (eqb x 7) (fault_at q (wrong_in m 32 n.slots n.cells q) faultless) faultless
        ≡ pick (eqb x 2 || eqb x 7) (fault_at q (wrong_in m 32 n.slots n.cells q) faultless) faultless
    go x h = simp (ne_eqb x 2 h)

module _ {S : Type 0} (n : Numbers) (p : code.Phase) (q : ℕ) (m first : List ℕ) (fit : Bool)
    (e : fit ≡ (sound (state_of n p) && lent (Cut 0) (lent_to n p m [] first [] []))) (v : S) (s : Asks {T = S} (Ok v) (ready_tests fit p)) where
  table : ((ready_tests fit p ++ range_tests n q) ++ moved_tests n q m ++ dirty_tests q first) ≡ tests (Cut q) (lent_to n p m [] first [] [])
  table = cut_table n p m [] first [] [] fit q e

  pub cut_out : {T : Type 0} → (ltb q n.h || (ltb n.f q || ltb n.o q)) ≡ true → Judges {T = T} (Err NotACut) (Cut q) (lent_to n p m [] first [] [])
  cut_out b =
      let r : Result S Refusal = Err NotACut in
      stopped (Cut q) _ (ready_tests fit p ++ range_tests n q) (moved_tests n q m ++ dirty_tests q first) table NotACut (Err NotACut) refl
      (go_on (ready_tests fit p) (range_tests n q) v r (omega arith) s (holds _ 9 NotACut b refl refl))

  module _ (b : (ltb q n.h || (ltb n.f q || ltb n.o q)) ≡ false) where
    in_range : Asks {T = S} (Ok v) (ready_tests fit p ++ range_tests n q)
    in_range = go_on (ready_tests fit p) (range_tests n q) v (Ok v) (omega arith) s (none_holds _ 9 v b)

    -- the row of p refuses
    pub cut_moved : {T : Type 0} (x : Refusal) (r : Result T Refusal) → IsErrAnd r (λ y. y ≡ x) → number_of x ≡ moved_no n.h q (entry_in m 32 n.slots n.cells q)
        → told_with x ≡ moved_fault (number_of x) q (wrong_in m 32 n.slots n.cells q) → Judges r (Cut q) (lent_to n p m [] first [] [])
    unfolding moved_no refusal
    cut_moved x r i f g =
        let z : number_of x ≡ refusal (Cut q) (lent_to n p m [] first [] []) =
        f ∙ early (moved_tests n q m) (dirty_tests q first) (λ z. number-above x (f ∙ z))
        ∙ late (ready_tests fit p ++ range_tests n q) (moved_tests n q m ++ dirty_tests q first) (omega arith) (sym in_range.number) ∙ ap first_no table in
        rw (handed-on x r i) (record { number = z; fault = cut-says n p q m first x f g z })

    -- it doesn't, and what is left is whether a cell is dirty
    pub cut_last : {T : Type 0} (r : Result T Refusal) → 0 ≡ moved_no n.h q (entry_in m 32 n.slots n.cells q) → Asks r (dirty_tests q first)
        → Judges r (Cut q) (lent_to n p m [] first [] [])
    unfolding moved_no
    cut_last r f t =
        ended (Cut q) _ ((ready_tests fit p ++ range_tests n q) ++ moved_tests n q m) (dirty_tests q first) table v r (omega arith)
        (go_on (ready_tests fit p ++ range_tests n q) (moved_tests n q m) v (Ok v) (omega arith) in_range (record { number = f; fault = refl })) t

-- beside a number that isn't 7, nothing is told of the row of p
pub moved_silent : (number p : ℕ) (o : Option Reason) → (number ≡ 7 → ⊥) → faultless ≡ moved_fault number p o
unfolding moved_fault
moved_silent number p o i = simp (ne_eqb number 7 i)

pub moved_told : (p : ℕ) (x : Reason) (o : Option Reason) → some x ≡ o → fault x p ≡ moved_fault 7 p o
unfolding moved_fault
moved_told p x o e = ap (λ y. fault_at p y faultless) e
