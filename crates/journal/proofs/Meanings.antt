-- What a row's answer means, by its variants, for callers that take it apart; and an update that reads has its cell in the table.
use Prim.Native.Nat.{ℕ, ◌<◌}
use mathlib.Core.Path.{◌≡◌, refl, sym, ap, ◌∙◌, subst}
use mathlib.Core.Bool.{Bool, true, false, ◌&&◌}
use mathlib.Core.List.{List}
use mathlib.Core.Option.{Option, none, some}
use lib.Dec.{eqb}
use Rattle.std.specs.Prelude.{Result, Ok, Err}
use Rattle.scope.specs.Bytes.{pick}
use Rattle.scope.specs.Row.{Entry, update, commit_entry, abort_entry, entry_of, is_update}
use Rattle.scope.proofs.Row.{read_fields}
use Rattle.row.specs.Row.{entry, meaning}
use Rattle.row.specs.declared.Entry as code
use Rattle.row.specs.declared.Reason as reasons
use Rattle.row.specs.declared.Entry.TheVariants.{Update, Commit, Abort}
use Rattle.journal.specs.Entries.{entry_in}

module _ (r : Result code.Entry reasons.Reason) (o : Option Entry) (e : meaning r ≡ o) where
  pub is_nothing : (x : reasons.Reason) → r ≡ Err x → none ≡ o
  is_nothing x p = sym (ap meaning p) ∙ e

  module _ (w : code.Entry) (p : r ≡ Ok w) where
    pub is_some : some (entry w) ≡ o
    is_some = sym (ap meaning p) ∙ e

    pub is-update : (c old new : ℕ) → w ≡ Update c old new → some (update c old new) ≡ o
    is-update c old new q = sym (ap (λ v. some (entry v)) q) ∙ is_some

    pub is_commit : w ≡ Commit → some commit_entry ≡ o
    is_commit q = sym (ap (λ v. some (entry v)) q) ∙ is_some

    pub is_abort : w ≡ Abort → some abort_entry ≡ o
    is_abort q = sym (ap (λ v. some (entry v)) q) ∙ is_some

    -- an entry of another variant than Update
    pub is_end : ((c old new : ℕ) → w ≡ Update c old new → ⊥) → false ≡ is_update o
    is_end h = go w h ∙ ap is_update is_some
      where
        go : (v : code.Entry) → ((c old new : ℕ) → v ≡ Update c old new → ⊥) → false ≡ is_update (some (entry v))
        go (Update c old new) g = absurd (g c old new refl)
        go Commit g = refl
        go Abort g = refl

same-cell : (k c a b c' a' b' : ℕ) → entry_of k c a b ≡ some (update c' a' b') → c ≡ c'
unfolding entry_of
same-cell k c a b c' a' b' p = go (eqb k 1) (eqb c 0 && (eqb a 0 && eqb b 0)) (eqb k 2) (eqb k 3) p
  where
    go : (t z k₂ k₃ : Bool)
        → pick t (some (update c a b)) (pick z (pick k₂ (some commit_entry) (pick k₃ (some abort_entry) none)) none) ≡ some (update c' a' b')
        → c ≡ c'
    go true z k₂ k₃ q = cc
    go false true true k₃ q = cc
    go false true false true q = cc
    go false true false false q = cc
    go false false k₂ k₃ q = cc

pub entry-below : (rows : List ℕ) (base slots cells n c old new : ℕ) → some (update c old new) ≡ entry_in rows base slots cells n → c < cells
unfolding entry_in
entry-below rows base slots cells n c old new e =
    let f = read_fields cells n _ (update c old new) (sym e) in
    subst (λ x. x < cells) (same-cell _ _ _ _ c old new f.entry) f.below
