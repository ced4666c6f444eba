-- Two answers of reading a row that its contract permits are equal: what an answer means has an inverse. So has what is told of rows.
use mathlib.Core.Path.{◌≡◌, refl, sym, ap, ◌∙◌}
use mathlib.Core.Option.{Option, none, some}
use Rattle.scope.specs.Row.{Entry, update, commit_entry, abort_entry, Reason, too_short, other_number, unknown_kind, filler_not_zero, cell_out_of_range, cell_left, old_left, new_left, not_update, hole, Fault, faultless, fault}
use Rattle.row.specs.Row.{meaning, reason, reason_of, fault_in, fault_of}
use Rattle.row.specs.declared.Entry.TheVariants.{Update, Commit, Abort}
use Rattle.row.specs.declared.Reason as reasons
use Rattle.row.specs.declared.Reason.TheVariants.{TooShort, OtherNumber, UnknownKind, FillerNotZero, CellOutOfRange, CellLeft, OldLeft, NewLeft, NotUpdate, Hole}
use Rattle.row.specs.declared.Fault as faults
use Rattle.std.specs.Prelude.{Result, Ok, Err, Some, None}
use Rattle.std.specs.declared.option.Option as code_option
use Rattle.row.specs.declared.Entry as entries

reason_back : Reason → reasons.Reason
reason_back too_short = TooShort
reason_back other_number = OtherNumber
reason_back unknown_kind = UnknownKind
reason_back filler_not_zero = FillerNotZero
reason_back cell_out_of_range = CellOutOfRange
reason_back cell_left = CellLeft
reason_back old_left = OldLeft
reason_back new_left = NewLeft
reason_back not_update = NotUpdate
reason_back hole = Hole

reason_there : (x : reasons.Reason) → reason_back (reason x) ≡ x
unfolding reason_back
reason_there TooShort = refl
reason_there OtherNumber = refl
reason_there UnknownKind = refl
reason_there FillerNotZero = refl
reason_there CellOutOfRange = refl
reason_there CellLeft = refl
reason_there OldLeft = refl
reason_there NewLeft = refl
reason_there NotUpdate = refl
reason_there Hole = refl

row_back : Option Entry → Option Reason → Result entries.Entry reasons.Reason
row_back (some (update c old new)) x = Ok (Update c old new)
row_back (some commit_entry) x = Ok Commit
row_back (some abort_entry) x = Ok Abort
row_back none (some x) = Err (reason_back x)
row_back none none = Err NotUpdate

pub row_same : (r t : Result entries.Entry reasons.Reason) (e : Option Entry) (x : Option Reason) → (meaning r ≡ e) × (reason_of r ≡ x) → (meaning t ≡ e) × (reason_of t ≡ x) → r ≡ t
unfolding row_back
row_same r t e x p q = sym (go r) ∙ (λ i. row_back ((p.0 ∙ sym q.0) i) ((p.1 ∙ sym q.1) i)) ∙ go t
  where
    go : (r : Result entries.Entry reasons.Reason) → row_back (meaning r) (reason_of r) ≡ r
    go (Ok (Update c old new)) = refl
    go (Ok Commit) = refl
    go (Ok Abort) = refl
    go (Err x) = ap Err (reason_there x)

pub fault_back : Fault → faults.Fault
fault_back faultless = record { reason = NotUpdate; entry = 0 }
fault_back (fault x n) = record { reason = reason_back x; entry = n }

pub fault_there : (w : faults.Fault) → fault_back (fault_in w) ≡ w
unfolding fault_back
fault_there w = λ i. record { reason = reason_there w.reason i; entry = w.entry }

told_back : Fault → code_option.Option faults.Fault
told_back faultless = None
told_back (fault x n) = Some (fault_back (fault x n))

pub fault-same : (a b : code_option.Option faults.Fault) (f : Fault) → fault_of a ≡ f → fault_of b ≡ f → a ≡ b
unfolding told_back
fault-same a b f p q = sym (go a) ∙ ap told_back (p ∙ sym q) ∙ go b
  where
    go : (a : code_option.Option faults.Fault) → told_back (fault_of a) ≡ a
    go None = refl
    go (Some w) = ap Some (fault_there w)
