-- Undo, replay and scan, one law for each way that an entry or a turn of a loop goes: what remains to be done stays the same.
use Prim.Native.Nat.{ℕ, suc, ◌+◌, ◌-◌, ◌≤◌, ◌<◌}
use mathlib.Core.Path.{◌≡◌, refl, sym, ap, ◌∙◌}
use mathlib.Core.Bool.{Bool, true, false, false≢true}
use mathlib.Core.List.{List, []}
use mathlib.Core.Option.{Option, none, some}
use native.Mathlib.Omega.{arith}
use borrow.Author.Tests.{leb-true, eq-eqb, ne_eqb}
use lib.Dec.{leb}
use lib.ListN.{length, set}
use Rattle.scope.specs.Bytes.{pick, max_no, number_at}
use Rattle.scope.specs.Row.{Entry, update, commit_entry, abort_entry, is_update, Fault, faultless, fault, fault_at, hole, wrong_entry}
use Rattle.scope.specs.Recovery.{rows_of, also, any_holds, entries_from, at_most, journal, fault_from, journal_fault}
use Rattle.std.specs.Prelude.{Result, Ok, Err}
use Rattle.row.specs.Row.{meaning, reason_of, fault_in}
use Rattle.row.specs.declared.Fault as faults
use Rattle.row.specs.declared.Entry.TheVariants.{Update}
use Rattle.row.specs.declared.Entry as code
use Rattle.row.specs.declared.Reason as reasons
use Rattle.journal.specs.Entries.{entry_in}
use Rattle.journal.proofs.Meanings.{is_end}
use Rattle.replay.specs.Replay.{last_of, undo_entry, undo_from, replay_entry, open_after, opened, onward, replay_from}

-- an entry that is no update undoes nothing

undo-other : (o : Option Entry) (t : List ℕ) → false ≡ is_update o → t ≡ undo_entry o t
undo-other none t h = refl
undo-other (some (update c old new)) t h = absurd (false≢true h)
undo-other (some commit_entry) t h = refl
undo-other (some abort_entry) t h = refl

pub undo-end : (x : Result code.Entry reasons.Reason) (o : Option Entry) → meaning x ≡ o → (w : code.Entry) → x ≡ Ok w → (t : List ℕ) → ((c old new : ℕ) → w ≡ Update c old new → ⊥) → t ≡ undo_entry o t
undo-end x o m w p t h = undo-other o t (is_end x o m w p h)

-- one entry undone, replayed

pub undo_nothing : (r : Option Entry) (t : List ℕ) → none ≡ r → t ≡ undo_entry r t
undo_nothing r t p = ap (λ z. undo_entry z t) p

pub undo-update : (r : Option Entry) (t : List ℕ) (i c old new : ℕ) → some (update c old new) ≡ r → i ≡ c → set t i old ≡ undo_entry r t
undo-update r t i c old new p q = ap (λ j. set t j old) q ∙ ap (λ z. undo_entry z t) p

module _ (e : ℕ → Option Entry) (r : Option Entry) (s n k : ℕ) (t : List ℕ) where
  pub replay_nothing : none ≡ r → (t ≡ replay_entry e r s n t) × (none ≡ open_after r s k)
  replay_nothing p = (ap (λ z. replay_entry e z s n t) p, ap (λ z. open_after z s k) p)

  pub replay-update : (i c old new : ℕ) → some (update c old new) ≡ r → i ≡ c → (set t i new ≡ replay_entry e r s n t) × (some s ≡ open_after r s k)
  replay-update i c old new p q = (ap (λ j. set t j new) q ∙ ap (λ z. replay_entry e z s n t) p, ap (λ z. open_after z s k) p)

  pub replay_commit : some commit_entry ≡ r → (t ≡ replay_entry e r s n t) × (some k ≡ open_after r s k)
  replay_commit p = (ap (λ z. replay_entry e z s n t) p, ap (λ z. open_after z s k) p)

  pub replay_abort : (t' : List ℕ) → t' ≡ undo_from e s (n - s) t → some abort_entry ≡ r → (t' ≡ replay_entry e r s n t) × (some k ≡ open_after r s k)
  replay_abort t' q p = (q ∙ ap (λ z. replay_entry e z s n t) p, ap (λ z. open_after z s k) p)

-- the falling loop of undo, which has still to make of t what it was to make of the first table

module _ (e : ℕ → Option Entry) (s k : ℕ) (all t : List ℕ) (p : all ≡ undo_from e s (k - s) t) where
  undo-suc : (j i : ℕ) → j ≡ suc i → undo_from e s j t ≡ undo_from e s i (undo_entry (e (s + j)) t)
  unfolding undo_from
  undo-suc j i h = rw h

  pub undo_again : s < k → (t' : List ℕ) → t' ≡ undo_entry (e (k - 1 + 1)) t → all ≡ undo_from e s (k - 1 - s) t'
  undo_again h t' q =
      let z : k - s ≡ suc (k - 1 - s) = omega arith in
      let y : s + (k - s) ≡ k - 1 + 1 = omega arith in
      p ∙ undo-suc (k - s) (k - 1 - s) z ∙ rw (y, q)

  pub undo-done : k ≤ s → t ≡ all
  unfolding undo_from
  undo-done h = let z : k - s ≡ 0 = omega arith in sym (p ∙ rw z)

-- the rising loop of replay

module _ (e : ℕ → Option Entry) (last s n : ℕ) (all : Option (List ℕ)) (t : List ℕ) (p : all ≡ replay_from e (last - n) s n t) where
  replay-suc : (j i : ℕ) → j ≡ suc i
      → replay_from e j s n t ≡ onward (open_after (e (n + 1)) s (n + 1)) (λ s'. replay_from e i s' (n + 1) (replay_entry e (e (n + 1)) s n t))
  unfolding replay_from
  replay-suc j i h = rw h

  module _ (h : n < last) (u : Result ℕ faults.Fault) (q : opened u ≡ open_after (e (n + 1)) s (n + 1)) where
    replay_on : all ≡ onward (opened u) (λ s'. replay_from e (last - (n + 1)) s' (n + 1) (replay_entry e (e (n + 1)) s n t))
    replay_on =
        let z : last - n ≡ suc (last - (n + 1)) = omega arith in
        p ∙ replay-suc (last - n) (last - (n + 1)) z ∙ rw q

    pub replay_again : (s' : ℕ) → u ≡ Ok s' → (t' : List ℕ) → t' ≡ replay_entry e (e (n + 1)) s n t → all ≡ replay_from e (last - (n + 1)) s' (n + 1) t'
    replay_again s' o t' r =
        replay_on ∙ ap (λ v. onward (opened v) (λ s''. replay_from e (last - (n + 1)) s'' (n + 1) (replay_entry e (e (n + 1)) s n t))) o ∙ rw r

    pub replay-refused : (w : faults.Fault) → u ≡ Err w → none ≡ all
    replay-refused w o =
        sym (replay_on ∙ ap (λ v. onward (opened v) (λ s''. replay_from e (last - (n + 1)) s'' (n + 1) (replay_entry e (e (n + 1)) s n t))) o)

  pub replay-done : n ≡ last → (t' : List ℕ) → t' ≡ undo_from e s (last - s) t → some t' ≡ all
  unfolding replay_from
  replay-done h t' q = let z : last - n ≡ 0 = omega arith in ap some q ∙ sym (p ∙ rw (z, h))

-- how many rows are read

module _ (slots h : ℕ) where
  pub most_fits : h < 4294967296 → h + at_most slots h < 4294967296
  unfolding at_most max_no
  most_fits p = go (leb slots (4294967295 - h)) refl
    where
      go : (b : Bool) → leb slots (4294967295 - h) ≡ b → h + pick b slots (4294967295 - h) < 4294967296
      go true q = omega (arith, leb-true slots (4294967295 - h) q)
      go false q = omega arith

-- the search for a later row that holds its number

module _ (m : List ℕ) (slots : ℕ) (all : Bool) (n count : ℕ) (p : all ≡ any_holds (rows_of slots m) count n) where
  pub holds-done : count ≤ 0 → false ≡ all
  unfolding any_holds
  holds-done h = let z : count ≡ 0 = omega arith in sym (p ∙ rw z)

  module _ (rest : ℕ) (h : count ≡ suc rest) where
    holds-suc : all ≡ any_holds (rows_of slots m) (suc rest) n
    holds-suc = p ∙ ap (λ k. any_holds (rows_of slots m) k n) h

    pub holds-found : number_at 4 0 (rows_of slots m (n + 1)) ≡ n + 1 → true ≡ all
    unfolding any_holds
    holds-found q = sym (holds-suc ∙ simp (eq-eqb _ _ q))

    pub holds_again : (number_at 4 0 (rows_of slots m (n + 1)) ≡ n + 1 → ⊥) → all ≡ any_holds (rows_of slots m) rest (n + 1)
    unfolding any_holds
    holds_again q = holds-suc ∙ simp (ne_eqb _ _ q)

module _ (b : Bool) (n : ℕ) where
  pub a-hole : (k : ℕ) → k ≡ n + 1 → b ≡ true → (none ≡ pick b none (some n)) × (fault hole k ≡ pick b (fault hole (n + 1)) faultless)
  a-hole k e h = (simp h, simp (h, e))

  pub an_end : b ≡ false → (some n ≡ pick b none (some n)) × (faultless ≡ pick b (fault hole (n + 1)) faultless)
  an_end h = (simp h, simp h)

-- the scan

last_empty : (n : ℕ) → last_of n (some []) ≡ some n
last_empty n = let z : n + 0 ≡ n = omega arith in ap some z

last_or_hole : (n : ℕ) (b : Bool) → last_of n (pick b none (some [])) ≡ pick b none (some n)
last_or_hole n true = refl
last_or_hole n false = last_empty n

last-also : (n : ℕ) (x : Entry) (o : Option (List Entry)) → last_of n (also x o) ≡ last_of (n + 1) o
last-also n x none = refl
last-also n x (some es) = let z : n + suc (length es) ≡ n + 1 + length es = omega arith in ap some z

module _ (m : List ℕ) (slots cells : ℕ) where
  pub scan_starts : (h left : ℕ) → left ≡ at_most slots h
      → last_of h (journal cells slots h m) ≡ last_of h (entries_from (rows_of slots m) cells left h)
  unfolding journal
  scan_starts h left p = ap (λ k. last_of h (entries_from (rows_of slots m) cells k h)) (sym p)

  module _ (all : Option ℕ) (n left : ℕ) (p : all ≡ last_of n (entries_from (rows_of slots m) cells left n)) where
    pub scan_done : left ≤ 0 → (end : ℕ) → end ≡ n → some end ≡ all
    unfolding entries_from
    scan_done h end q = let z : left ≡ 0 = omega arith in ap some q ∙ sym (p ∙ rw z (last_empty n))

    module _ (rest : ℕ) (h : left ≡ suc rest) where
      scan_suc : all ≡ last_of n (entries_from (rows_of slots m) cells (suc rest) n)
      scan_suc = p ∙ ap (λ k. last_of n (entries_from (rows_of slots m) cells k n)) h

      pub scan_stop : (number_at 4 0 (rows_of slots m (n + 1)) ≡ n + 1 → ⊥) → (u : Option ℕ)
          → u ≡ pick (any_holds (rows_of slots m) rest (n + 1)) none (some n) → u ≡ all
      unfolding entries_from
      scan_stop q u e = e ∙ sym (scan_suc ∙ simp (ne_eqb _ _ q) (last_or_hole n (any_holds (rows_of slots m) rest (n + 1))))

      module _ (q : number_at 4 0 (rows_of slots m (n + 1)) ≡ n + 1) where
        pub scan_bad : none ≡ entry_in m 32 slots cells (n + 1) → none ≡ all
        unfolding entries_from entry_in
        scan_bad e = sym (scan_suc ∙ simp (eq-eqb _ _ q, ← e))

        pub scan_again : (x : Entry) → some x ≡ entry_in m 32 slots cells (n + 1)
            → all ≡ last_of (n + 1) (entries_from (rows_of slots m) cells rest (n + 1))
        unfolding entries_from entry_in
        scan_again x e = scan_suc ∙ simp (eq-eqb _ _ q, ← e) (last-also n x (entries_from (rows_of slots m) cells rest (n + 1)))

  -- and the lowest row that does not read
  pub fault_starts : (h left : ℕ) → left ≡ at_most slots h → journal_fault cells slots h m ≡ fault_from (rows_of slots m) cells left h
  unfolding journal_fault
  fault_starts h left p = ap (λ k. fault_from (rows_of slots m) cells k h) (sym p)

  module _ (all : Fault) (n left : ℕ) (p : all ≡ fault_from (rows_of slots m) cells left n) where
    pub fault-done : left ≤ 0 → faultless ≡ all
    unfolding fault_from
    fault-done h = let z : left ≡ 0 = omega arith in sym (p ∙ rw z)

    module _ (rest : ℕ) (h : left ≡ suc rest) where
      fault-suc : all ≡ fault_from (rows_of slots m) cells (suc rest) n
      fault-suc = p ∙ ap (λ k. fault_from (rows_of slots m) cells k n) h

      pub fault_stop : (number_at 4 0 (rows_of slots m (n + 1)) ≡ n + 1 → ⊥) → (w : Fault)
          → w ≡ pick (any_holds (rows_of slots m) rest (n + 1)) (fault hole (n + 1)) faultless → w ≡ all
      unfolding fault_from
      fault_stop q w e = e ∙ sym (fault-suc ∙ simp (ne_eqb _ _ q))

      module _ (q : number_at 4 0 (rows_of slots m (n + 1)) ≡ n + 1) (r : Result code.Entry reasons.Reason) (e : reason_of r ≡ wrong_entry cells (n + 1) (rows_of slots m (n + 1))) where
        fault_on : all ≡ fault_at (n + 1) (reason_of r) (fault_from (rows_of slots m) cells rest (n + 1))
        unfolding fault_from
        fault_on = fault-suc ∙ simp (eq-eqb _ _ q, ← e)

        pub fault_bad : (x : reasons.Reason) → r ≡ Err x → fault_in (record { reason = x; entry = n + 1 }) ≡ all
        fault_bad x t = sym (fault_on ∙ ap (λ v. fault_at (n + 1) (reason_of v) (fault_from (rows_of slots m) cells rest (n + 1))) t)

        pub fault_again : (x : code.Entry) → r ≡ Ok x → all ≡ fault_from (rows_of slots m) cells rest (n + 1)
        fault_again x f = fault_on ∙ ap (λ v. fault_at (n + 1) (reason_of v) (fault_from (rows_of slots m) cells rest (n + 1))) f
