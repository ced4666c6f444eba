-- Whether one waiting row is what is due, and what is wrong with it, by what it reads as; and one turn of the search for the lowest fault, by peeling
-- its definition.
use Prim.Native.Nat.{ℕ, suc, ◌+◌, ◌-◌, ◌≤◌, ◌<◌}
use mathlib.Core.Path.{◌≡◌, refl, sym, ap, ◌∙◌}
use mathlib.Core.Bool.{Bool, true, false, false≢true}
use mathlib.Core.List.{List}
use mathlib.Core.Option.{Option, none, some}
use native.Mathlib.Omega.{arith}
use lib.ListN.{take, drop}
use Rattle.scope.specs.Keeper.{row_at}
use Rattle.scope.specs.Row.{Entry, is_update, Reason, not_update, Fault, faultless, fault, fault_at, lowest_fault}
use Rattle.scope.proofs.Reasons.{is_no_reason, wrong-update, end_not_update, update_or_wrong, entry_or_wrong}
use Rattle.journal.specs.Entries.{entry_in, wrong_in}
use Rattle.workspace.specs.Values.{wrong_update_in, is_due, wrong_due}
use Rattle.workspace.specs.declared.Due.{Due}
use Rattle.workspace.specs.declared.Due.TheVariants.{Entries, Updates}

-- a row is due exactly when there is no reason
pub due_or_wrong : (due : Due) (waiting : List ℕ) (slots cells m : ℕ) → is_due due (entry_in waiting 0 slots cells m) ≡ is_no_reason (wrong_due due waiting slots cells m)
unfolding entry_in wrong_due wrong_in wrong_update_in
due_or_wrong Updates waiting slots cells m = update_or_wrong cells m (take 32 (drop (0 + row_at slots m) waiting))
due_or_wrong Entries waiting slots cells m = entry_or_wrong cells m (take 32 (drop (0 + row_at slots m) waiting))

no_reason : (o : Option Reason) (n : ℕ) → true ≡ is_no_reason o → faultless ≡ fault_at n o faultless
no_reason none n h = refl
no_reason (some x) n h = absurd (false≢true (sym h))

-- one row, by what it reads as

module _ (due : Due) (waiting : List ℕ) (slots cells m : ℕ) (b : Bool) where
  module _ (w : Entry) (e : some w ≡ entry_in waiting 0 slots cells m) (q : b ≡ is_due due (some w)) where
    pub due_holds : b ≡ is_due due (entry_in waiting 0 slots cells m)
    due_holds = q ∙ ap (is_due due) e

    pub due_faultless : b ≡ true → faultless ≡ fault_at m (wrong_due due waiting slots cells m) faultless
    due_faultless t = no_reason (wrong_due due waiting slots cells m) m (sym t ∙ due_holds ∙ due_or_wrong due waiting slots cells m)

    pub end-fault : none ≡ wrong_in waiting 0 slots cells m → b ≡ false → fault not_update m ≡ fault_at m (wrong_due due waiting slots cells m) faultless
    unfolding wrong_due wrong_update_in wrong_in entry_in
    end-fault r f = ap (λ o. fault_at m o faultless) (go due (sym f ∙ q))
      where
        go : (d : Due) → false ≡ is_due d (some w) → some not_update ≡ wrong_due d waiting slots cells m
        go Entries h = absurd (false≢true h)
        go Updates h = sym (end_not_update cells m _ (sym r) (ap is_update (sym e) ∙ sym h))

pub not_held : (due : Due) (waiting : List ℕ) (slots cells m : ℕ) → none ≡ entry_in waiting 0 slots cells m → false ≡ is_due due (entry_in waiting 0 slots cells m)
not_held due waiting slots cells m e = go due ∙ ap (is_due due) e
  where
    go : (d : Due) → false ≡ is_due d none
    go Entries = refl
    go Updates = refl

pub wrong-fault : (due : Due) (waiting : List ℕ) (slots cells m : ℕ) (x : Reason) → some x ≡ wrong_in waiting 0 slots cells m
    → fault x m ≡ fault_at m (wrong_due due waiting slots cells m) faultless
unfolding wrong_due wrong_update_in wrong_in
wrong-fault due waiting slots cells m x e = ap (λ o. fault_at m o faultless) (go due)
  where
    go : (d : Due) → some x ≡ wrong_due d waiting slots cells m
    go Entries = e
    go Updates = sym (wrong-update cells m _ x (sym e))

-- the loop

module _ (wrong : ℕ → Option Reason) (l m : ℕ) (all : Fault) (p : all ≡ lowest_fault wrong (l - m) m) where
  pub lowest_done : l ≤ m → faultless ≡ all
  unfolding lowest_fault
  lowest_done h = let z : l - m ≡ 0 = omega arith in sym (p ∙ rw z)

  module _ (h : m < l) (good : Bool) (q : good ≡ is_no_reason (wrong (m + 1))) where
    lowest_suc : all ≡ fault_at (m + 1) (wrong (m + 1)) (lowest_fault wrong (l - (m + 1)) (m + 1))
    unfolding lowest_fault
    lowest_suc = let z : l - m ≡ suc (l - (m + 1)) = omega arith in p ∙ rw z

    pub lowest_again : good ≡ true → all ≡ lowest_fault wrong (l - (m + 1)) (m + 1)
    lowest_again e = lowest_suc ∙ go (wrong (m + 1)) (sym e ∙ q)
      where
        go : (o : Option Reason) → true ≡ is_no_reason o → fault_at (m + 1) o (lowest_fault wrong (l - (m + 1)) (m + 1)) ≡ lowest_fault wrong (l - (m + 1)) (m + 1)
        go none u = refl
        go (some x) u = absurd (false≢true (sym u))

    pub lowest_found : good ≡ false → (w : Fault) → w ≡ fault_at (m + 1) (wrong (m + 1)) faultless → w ≡ all
    lowest_found e w f = f ∙ go (wrong (m + 1)) (sym e ∙ q) ∙ sym lowest_suc
      where
        go : (o : Option Reason) → false ≡ is_no_reason o → fault_at (m + 1) o faultless ≡ fault_at (m + 1) o (lowest_fault wrong (l - (m + 1)) (m + 1))
        go none u = absurd (false≢true u)
        go (some x) u = refl
