-- What a decision claims ("Proved: ..", ticket 3), over the stored journal cut where the deciding entry stands.
use Rattle.std.specs.Prelude.{ℕ, ◌+◌, ◌<◌, ◌≡◌, Bool, true, false, ◌⊎◌, List, [], ◌∷◌, ◌++◌, length, get_or}
use Rattle.scope.specs.Bytes.{number_at}
use Rattle.scope.specs.Row.{Entry, update, commit_entry, abort_entry}
use Rattle.scope.specs.Keeper.{Keeper, done}
use Rattle.scope.specs.Recovery.{table_of}
use Rattle.scope.specs.Refusals.{RecoveryStart}
use Rattle.scope.specs.Calls.{act}
use Rattle.scope.specs.Demands.{names, stored_journal}
use Rattle.reasons.specs.declared.Reason.{Reason}
use Rattle.reasons.specs.declared.Reason.TheVariants.{Table, Written, Restored}
use Rattle.reasons.specs.declared.Decision.{Decision}
use Rattle.reasons.specs.Reason.{why}

-- the updates since the last commit or abort, or all: what the open transaction has
abbrev pub open_of : List Entry → List Entry → List Entry
open_of u [] = u
open_of u (update c old new ∷ es) = open_of (u ++ (update c old new ∷ [])) es
open_of u (commit_entry ∷ es) = open_of [] es
open_of u (abort_entry ∷ es) = open_of [] es

-- nothing but updates: these entries are of one transaction
abbrev pub only_updates : List Entry → Bool
only_updates [] = true
only_updates (update c old new ∷ es) = only_updates es
only_updates (commit_entry ∷ es) = false
only_updates (abort_entry ∷ es) = false

-- an update of the cell, with what stands before it, and after it of its own transaction; `entry` is its number
pub record Update (c h : ℕ) (es : List Entry) (entry : ℕ) : Type 0 where
  pub old : ℕ
  pub new : ℕ
  pub before : List Entry
  pub own : List Entry
  pub cut : es ≡ before ++ (update c old new ∷ own)
  pub one : only_updates own ≡ true
  pub number : entry ≡ h + length before + 1

-- the transaction's last update of the cell, and its first
pub record Last (c h : ℕ) (es : List Entry) (v entry : ℕ) : Type 0 where
  pub it : Update c h es entry
  pub none-later : names c it.own ≡ false
  pub value : it.new ≡ v

pub record First (c h : ℕ) (es : List Entry) (v entry : ℕ) : Type 0 where
  pub it : Update c h es entry
  pub none_earlier : names c (open_of [] it.before) ≡ false
  pub value : it.old ≡ v

-- the transaction's end stands after these entries as number `end`, and nothing after it names the cell
pub record Ended (e : Entry) (c h : ℕ) (es ours : List Entry) (end : ℕ) : Type 0 where
  pub later : List Entry
  pub cut : es ≡ ours ++ (e ∷ later)
  pub number : end ≡ h + length ours + 1
  pub none-later : names c later ≡ false

-- what is claimed where the table has the value `held` for the cell and recovery gives it the value v
abbrev pub Claimed : ℕ → ℕ → List Entry → ℕ → ℕ → Reason → ℕ → ℕ → Type 0
Claimed c h es held v Table entry end = (names c es ≡ false) × (v ≡ held) × (entry ≡ 0) × (end ≡ 0)
Claimed c h es held v Written entry end =
    (ours : List Entry) × Last c h ours v entry × Ended commit_entry c h es ours end
Claimed c h es held v Restored entry end =
    ((ours : List Entry) × First c h ours v entry × Ended abort_entry c h es ours end) ⊎ (First c h es v entry × (end ≡ 0))

abbrev pub Claims : ℕ → ℕ → List Entry → ℕ → ℕ → Decision → Type 0
Claims c h es held v d = Claimed c h es held v d.reason d.entry d.end

-- THE CLAIM, for every medium that recovery accepts and each of its cells: its value is the one that recovery gives, its table's was `held`
abbrev pub Right : Type 0
Right =
    (k : Keeper) (v c : ℕ) → (act RecoveryStart k).answer ≡ done v → (let m = k.medium in let n = number_at 4 0 m in let s = number_at 4 4 m in let h = number_at 4 8 m in
    c < n
    → Claims c h (stored_journal n s m) (get_or (table_of n s m) c 0) (get_or (act RecoveryStart k).keeper.current c 0) (why c h (stored_journal n s m)))
