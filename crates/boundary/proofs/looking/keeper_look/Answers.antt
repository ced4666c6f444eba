-- `boundary::looking::keeper_look` meets its contract. Each exit is a case of the papers' call; the part at the offset is its part.
use native.Mathlib.Omega.{arith}
use Rattle.boundary.proofs.Places.{looked_none, looked_refused, look_facts, looked_medium, looked_waiting}
use Rattle.boundary.proofs.SevenNumbers.{holds-state, holds-none}
use Rattle.boundary.proofs.looking.keeper_look.Goals as goal

pub returns-in_default : goal.returns-in_default
returns-in_default c = looked_none _ _ _ _ (holds-none _ c.in_default.ensures) _ c.number.ensures

pub returns-in-Err : goal.returns-in-Err
returns-in-Err c = looked_refused _ _ _ _ _ (holds-state _ _ c.in-Some.ensures) c.in-Err.why _ c.number-in-Err.ensures c.in-Err.ensures.number

pub row_at-row-requires : goal.row_at-row-requires
row_at-row-requires c = let l = look_facts _ _ _ _ c.in-Some.held (holds-state _ _ c.in-Some.ensures) c.in_default-try_look.ensures.number in (l.some-slots, l.numbered)

pub returns-then-n-numbers : goal.returns-then-n-numbers
returns-then-n-numbers c = looked_medium _ _ _ _ c.in-Some.held (holds-state _ _ c.in-Some.ensures) c.in_default-try_look.ensures.number _ c.row_at-row.ensures.0 c.if-n-numbers.true

pub returns : goal.returns
returns c = looked_waiting _ _ _ _ c.in-Some.held (holds-state _ _ c.in-Some.ensures) c.in_default-try_look.ensures.number _ c.row_at-row.ensures.0 (omega arith)
