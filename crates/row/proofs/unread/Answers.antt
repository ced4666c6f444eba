-- `row::unread` meets its contract. Each exit is a case of the definition, by the tests that led there.
use native.Mathlib.Omega.{arith}
use mathlib.Core.Path.{refl}
use Rattle.row.proofs.Reading.{unread_none, unread_beyond, unread_filler, unread_zeros, unread_cell}
use Rattle.row.proofs.unread.Goals as goal
use Rattle.row.proofs.unread.Goals.{then-kind-eq0-via-then-kind-eq0, then-kind-eq0-via-else-kind-eq0+then-kind-gt3, then-get4-from-via-then-get4-from, then-get4-from-via-else-get4-from+then-get4-ne0}

pub returns-then-kind-eq0 : goal.returns-then-kind-eq0
returns-then-kind-eq0 c =
    elim c.then-kind-eq0.branch [
      | then-kind-eq0-via-then-kind-eq0 w ↦ unread_none _ (omega arith) _ refl (omega arith)
      | then-kind-eq0-via-else-kind-eq0+then-kind-gt3 w ↦ unread_beyond _ (omega arith) _ refl (omega arith)
    ]

pub returns-then-get4-from : goal.returns-then-get4-from
returns-then-get4-from c =
    elim c.then-get4-from.branch [
      | then-get4-from-via-then-get4-from w ↦ unread_filler _ (omega arith) _ refl (omega arith) (omega arith) _ c.get4.ensures (omega arith)
      | then-get4-from-via-else-get4-from+then-get4-ne0 w ↦
          unread_zeros _ (omega arith) _ refl (omega arith) (omega arith) _ c.get4.ensures (omega arith) (omega arith)
    ]

pub returns : goal.returns
returns c = unread_cell _ (omega arith) _ refl (omega arith) (omega arith) _ c.get4.ensures (omega arith) (omega arith)
