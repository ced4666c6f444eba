-- Rows over the boundary: an entry as its kind and four numbers.
use Rattle.std.specs.Prelude.{ℕ, List, [], ◌∷◌, eqb, length}
use Rattle.std.proofs.Math.Option.{Option, none, some}
use Rattle.scope.specs.Bytes.{pick}
use Rattle.scope.specs.Row.{Entry, update, commit_entry, abort_entry, write_row, is_writable, Reason, reason_no}

-- the kind of what a row reads as; 0: nothing
abbrev pub kind_of : Option Entry → ℕ
kind_of none = 0
kind_of (some (update c old new)) = 1
kind_of (some commit_entry) = 2
kind_of (some abort_entry) = 3

-- the number of a reason; 0: none
abbrev pub wrong_no : Option Reason → ℕ
wrong_no none = 0
wrong_no (some x) = reason_no x

-- cell, old and new of an update, else zeros; then the reason
abbrev pub fields_of : Option Entry → Option Reason → List ℕ
fields_of none x = 0 ∷ 0 ∷ 0 ∷ wrong_no x ∷ []
fields_of (some (update c old new)) x = c ∷ old ∷ new ∷ wrong_no x ∷ []
fields_of (some commit_entry) x = 0 ∷ 0 ∷ 0 ∷ wrong_no x ∷ []
fields_of (some abort_entry) x = 0 ∷ 0 ∷ 0 ∷ wrong_no x ∷ []

pub record Fields : Type 0 where
  pub kind : ℕ
  pub fields : List ℕ

-- what reading a row answers; fields of another length than four are not written, and nothing is read
unfoldable pub row_read : Option Entry → Option Reason → List ℕ → Fields
row_read e x fields = pick (eqb (length fields) 4) (record { kind = kind_of e; fields = fields_of e x }) (record { kind = 0; fields = fields })

pub record Written : Type 0 where
  pub number : ℕ
  pub row : List ℕ

-- what writing a row answers, 0 or 1, and leaves: 1 where the fields are no entry's, or it is not writable
abbrev pub row_written : ℕ → Option Entry → List ℕ → Written
row_written n none row = record { number = 1; row = row }
row_written n (some e) row = record { number = pick (is_writable n row) 0 1; row = write_row n e row }
