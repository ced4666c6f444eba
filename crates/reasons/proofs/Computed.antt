-- Decisions by computation: the papers' cases 2, 5, 6 and 10, and one of each reason beside the others.
use Prim.Native.Nat.{ℕ}
use mathlib.Core.Path.{◌≡◌, refl}
use mathlib.Core.List.{List, [], ◌∷◌, map}
use Rattle.scope.specs.Row.{Entry, update, commit_entry, abort_entry}
use Rattle.scope.specs.Keeper.{first_mark}
use Rattle.reasons.specs.declared.Reason.{Reason}
use Rattle.reasons.specs.declared.Reason.TheVariants.{Table, Written, Restored}
use Rattle.reasons.specs.declared.Decision.{Decision}
use Rattle.reasons.specs.Reason.{untold, written, restored, told, tale, why}

abbrev by : Reason → ℕ → ℕ → Decision
by reason entry end = record { reason = reason; entry = entry; end = end }

-- cell 0 gets a value, 40017 or 40052, from what it had
abbrev A : ℕ
A = 40017

abbrev B : ℕ
B = 40052

-- cell 0 after h by these entries
abbrev cell0 : List (ℕ × List Entry)
cell0 =
    (0, [])  -- no entry
    ∷ (0, update 1 0 A ∷ commit_entry ∷ [])  -- another cell's
    ∷ (0, update 0 0 A ∷ commit_entry ∷ [])  -- case 2
    ∷ (0, update 0 0 A ∷ commit_entry ∷ update 0 A B ∷ [])  -- case 5
    ∷ (0, update 0 0 A ∷ commit_entry ∷ update 0 A B ∷ commit_entry ∷ [])  -- case 6
    ∷ (0, update 0 0 A ∷ update 0 A B ∷ abort_entry ∷ [])  -- case 10
    ∷ (0, update 0 0 A ∷ update 0 A B ∷ update 1 0 B ∷ commit_entry ∷ [])  -- written twice: the last
    ∷ (0, update 0 0 A ∷ commit_entry ∷ update 1 0 B ∷ abort_entry ∷ update 1 0 A ∷ [])  -- later transactions of another cell
    ∷ (7, commit_entry ∷ update 1 0 A ∷ update 0 5 A ∷ update 0 A B ∷ abort_entry ∷ commit_entry ∷ [])  -- after h = 7, restored
    ∷ (7, update 0 5 A ∷ abort_entry ∷ update 0 5 A ∷ update 0 5 B ∷ [])  -- aborted, then unfinished
    ∷ []

pub computed
    : map (λ (x : ℕ × List Entry). why 0 x.0 x.1) cell0
    ≡ by Table 0 0 ∷ by Table 0 0 ∷ by Written 1 2 ∷ by Restored 3 0 ∷ by Written 3 4 ∷ by Restored 1 3 ∷ by Written 2 4 ∷ by Written 1 2 ∷ by Restored 10 12 ∷ by Restored 10 0 ∷ []
unfolding untold written restored told tale why first_mark
computed = refl
