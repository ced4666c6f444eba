-- The values that the counter's answers have for a host: the cell to order; and, for a part in hand, a number for each word. 0 on refusal.
use Rattle.std.specs.Prelude.{ℕ, Result, Ok, Err}
use Rattle.answer.specs.declared.Refusal.{Refusal}
use Rattle.counter.specs.declared.Best.{Best}
use Rattle.counter.specs.declared.Hand.{Hand}
use Rattle.counter.specs.declared.Hand.TheVariants as hand

abbrev pub order_value : Result Best Refusal → ℕ
order_value (Ok b) = b.cell
order_value (Err r) = 0

abbrev pub hand_value : Result Hand Refusal → ℕ
hand_value (Ok hand.ThatOne) = 1
hand_value (Ok hand.Equal) = 2
hand_value (Ok hand.Older) = 3
hand_value (Ok hand.NotListed) = 4
hand_value (Err r) = 0
