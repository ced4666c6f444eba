-- `counter_text::put_answer` meets its contract. The cell and the part in hand, or the refusal.
use Rattle.counter_text.proofs.Said.{said_with_part, said_alone}
use Rattle.counter_text.proofs.put_answer.Goals as goal

pub returns-in-Some : goal.returns-in-Some
returns-in-Some c = said_with_part _ _ _ _ _ _ _ c.in-Ok.ensures c.put_cell.ensures _ _ _ c.in-Some.is c.part_in_hand.ensures c.put_hand.ensures

pub returns-in_default : goal.returns-in_default
returns-in_default c = said_alone _ _ _ _ _ _ _ c.in-Ok.ensures c.put_cell.ensures c.in_default.is
