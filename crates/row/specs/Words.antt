-- The words in which people are told what is wrong with a row.
use Rattle.std.specs.Prelude.{ℕ, List, ◌++◌, codes, decimal}
use Rattle.row.specs.declared.Reason as reasons
use Rattle.row.specs.declared.Reason.TheVariants.{TooShort, OtherNumber, UnknownKind, FillerNotZero, CellOutOfRange, CellLeft, OldLeft, NewLeft, NotUpdate, Hole}
use Rattle.row.specs.declared.Fault as faults

abbrev pub reason_text : reasons.Reason → List ℕ
reason_text TooShort = codes "too short"
reason_text OtherNumber = codes "other number"
reason_text UnknownKind = codes "unknown kind"
reason_text FillerNotZero = codes "filler not zero"
reason_text CellOutOfRange = codes "cell out of range"
reason_text CellLeft = codes "cell left in an end entry"
reason_text OldLeft = codes "old left in an end entry"
reason_text NewLeft = codes "new left in an end entry"
reason_text NotUpdate = codes "not an update"
reason_text Hole = codes "hole"

-- the entry expected in the row, and the reason
abbrev pub fault_text : faults.Fault → List ℕ
fault_text w = codes "entry " ++ decimal w.entry ++ codes ": " ++ reason_text w.reason
