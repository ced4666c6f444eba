-- A row read and written: one law for each exit, by what the row, or its fields, are as an entry.
use Prim.Native.Nat.{ℕ}
use mathlib.Core.Path.{◌≡◌, refl, ap, ◌∙◌}
use mathlib.Core.Bool.{Bool}
use mathlib.Core.List.{List, [], ◌∷◌}
use mathlib.Core.Option.{Option, none, some}
use borrow.Author.Tests.{eq-eqb, ne_eqb}
use lib.ListN.{length, get_or}
use Rattle.scope.specs.Bytes.{pick}
use Rattle.scope.specs.Row.{Entry, update, commit_entry, abort_entry, write_row, is_writable, Reason}
use Rattle.boundary.specs.Rows.{kind_of, fields_of, row_read, row_written}

module _ (e : Option Entry) (x : Option Reason) (s : List ℕ) where
  pub read_other : (length s ≡ 4 → ⊥) → record { kind = 0; fields = s } ≡ row_read e x s
  unfolding row_read
  read_other h = simp (ne_eqb (length s) 4 h)

  pub read_as : length s ≡ 4 → (e' : Option Entry) → e' ≡ e → (x' : Option Reason) → x' ≡ x → (k : ℕ) (fs : List ℕ) → k ≡ kind_of e' → fs ≡ fields_of e' x'
      → record { kind = k; fields = fs } ≡ row_read e x s
  unfolding row_read
  read_as h e' p x' y k fs q r =
      rw (q, r) ((λ i. record { kind = kind_of (p i); fields = fields_of (p i) (y i) }) ∙ simp (eq-eqb (length s) 4 h))

-- the fields of a row are four
pub four_fields : (e : Option Entry) (x : Option Reason) (fs : List ℕ) → fs ≡ fields_of e x → get_or fs 0 0 ∷ get_or fs 1 0 ∷ get_or fs 2 0 ∷ get_or fs 3 0 ∷ [] ≡ fields_of e x
four_fields e x fs p = ap (λ s. get_or s 0 0 ∷ get_or s 1 0 ∷ get_or s 2 0 ∷ get_or s 3 0 ∷ []) p ∙ each e
  where
    each : (e : Option Entry) → get_or (fields_of e x) 0 0 ∷ get_or (fields_of e x) 1 0 ∷ get_or (fields_of e x) 2 0 ∷ get_or (fields_of e x) 3 0 ∷ [] ≡ fields_of e x
    each none = refl
    each (some (update c old new)) = refl
    each (some commit_entry) = refl
    each (some abort_entry) = refl

pub written_none : (n : ℕ) (e : Option Entry) (s : List ℕ) → none ≡ e → record { number = 1; row = s } ≡ row_written n e s
written_none n e s p = ap (λ x. row_written n x s) p

pub written_as : (n : ℕ) (e : Option Entry) (s s2 : List ℕ) (x : Entry) (t : Bool) (number : ℕ) → some x ≡ e → t ≡ is_writable n s → s2 ≡ write_row n x s
    → number ≡ pick t 0 1 → record { number = number; row = s2 } ≡ row_written n e s
written_as n e s s2 x t number p q r z = rw (z, r) (ap (λ b. record { number = pick b 0 1; row = write_row n x s }) q ∙ ap (λ y. row_written n y s) p)
