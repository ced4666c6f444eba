-- The decision is right for every medium that recovery accepts: its start replays the stored journal over the table.
use Prim.Native.Nat.{ℕ, zero, suc, ◌<◌}
use mathlib.Core.Path.{◌≡◌, refl, sym, subst}
use mathlib.Core.List.{List, []}
use native.Mathlib.Omega.{arith}
use lib.ListN.{get_or}
use Rattle.scope.specs.Bytes.{number_at}
use Rattle.scope.specs.Row.{Entry}
use Rattle.scope.specs.Keeper.{Keeper, Outcome, done}
use Rattle.scope.specs.Recovery.{journal, entries_of, replay, table_of}
use Rattle.scope.specs.Refusals.{RecoveryStart, refusal}
use Rattle.scope.specs.Calls.{performed, unless, act}
use Rattle.scope.proofs.TableCells.{length_table}
use Rattle.reasons.specs.Reason.{why}
use Rattle.reasons.specs.Claim.{Claims, Right}
use Rattle.reasons.proofs.Decided.{decided}

module _ (k : Keeper) (v c n s h : ℕ) (es : List Entry) where
  started_right : (r : ℕ) (o : Outcome) (g : Keeper) → o.answer ≡ done 0 → o.keeper.current ≡ replay es [] (table_of n s k.medium) → (unless r o g).answer ≡ done v → c < n
      → Claims c h es (get_or (table_of n s k.medium) c 0) (get_or (unless r o g).keeper.current c 0) (why c h es)
  started_right (suc r) o g a q e l = let z : ◌≡◌ {A = ℕ} 0 1 = cc in absurd (omega arith)
  started_right zero o g a q e l =
      subst (λ x. Claims c h es (get_or (table_of n s k.medium) c 0) (get_or x c 0) (why c h es)) (sym q)
      (decided c h es (table_of n s k.medium) (omega (arith, length_table n s k.medium)))

-- THE CLAIM
pub right : Right
unfolding act performed
right k v c =
    let m = k.medium in let n = number_at 4 0 m in let s = number_at 4 4 m in let h = number_at 4 8 m in
    started_right k v c n s h (entries_of (journal n s h m)) (refusal RecoveryStart k) _ _ refl refl
