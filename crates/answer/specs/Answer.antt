-- What a refusal says: its number, and what is told beside it.
use Rattle.std.specs.Prelude.{ℕ, Result, Ok, Err}
use Rattle.scope.specs.Row.{Fault, faultless}
use Rattle.row.specs.Row.{fault_in}
use Rattle.answer.specs.declared.Refusal.{Refusal}
use Rattle.answer.specs.declared.Refusal.TheVariants.{Unfit, Malformed, NoTransaction, NoCell, Full, UsedUp, BadRow, NotStored, NotACut, WrongPhase, NoEntry, NoPart}

abbrev pub number_of : Refusal → ℕ
number_of Unfit = 1
number_of (Malformed w) = 2
number_of NoTransaction = 3
number_of NoCell = 4
number_of Full = 5
number_of UsedUp = 6
number_of (BadRow w) = 7
number_of NotStored = 8
number_of NotACut = 9
number_of WrongPhase = 10
number_of NoEntry = 11
number_of NoPart = 12

-- what is told beside it: beside 2 and 7 what is wrong with the lowest bad row, beside all others nothing
abbrev pub told_with : Refusal → Fault
told_with (Malformed w) = fault_in w
told_with (BadRow w) = fault_in w
told_with _ = faultless

-- of a call that answers a value or a refusal: the number, 0 where it isn't refused
abbrev pub number_in : {T : Type 0} → Result T Refusal → ℕ
number_in (Ok x) = 0
number_in (Err r) = number_of r

abbrev pub told_in : {T : Type 0} → Result T Refusal → Fault
told_in (Ok x) = faultless
told_in (Err r) = told_with r
