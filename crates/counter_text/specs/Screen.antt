-- What the counter's program says to what it is asked: lines of input, of which the first names the medium, the second and third are lowest
-- and count and the fourth, if there is one, the part in hand.
use Rattle.std.specs.Prelude.{ℕ, zero, suc, ◌≡◌, List, [], ◌∷◌, ◌++◌, ltb, Option, Some, None, Result, Ok, Err}
use Rattle.scope.specs.Bytes.{pick}
use Rattle.scope.specs.Keeper.{Keeper, is_head_ok, refusal_of}
use Rattle.scope.specs.History.{Event, History, reached, wanted}
use Rattle.recovered.specs.Recovered.{started, recovered}
use Rattle.text.specs.Text.{line, refused_key, cell_text}
use Rattle.lines.specs.Lines.{nth_line, line_bytes, decimal_of}
use Rattle.lines.specs.declared.Line.{Line}
use Rattle.answer.specs.Answer as answers
use Rattle.answer.specs.Answer.{number_of}
use Rattle.answer.specs.declared.Refusal.{Refusal}
use Rattle.counter.specs.declared.Best.{Best}
use Rattle.counter.specs.declared.Hand.{Hand}
use Rattle.counter.specs.declared.Hand.TheVariants as hand
use Rattle.counter.specs.Counter.{span_refusal, cell_to_order, part_in_hand}
use Rattle.counter.specs.Claims.{order_for, hand_for}
use Rattle.counter_text.specs.declared.Question.{Question}

-- line k as a number
abbrev pub number_in : ℕ → List ℕ → Option ℕ
number_in k s = decimal_of (line_bytes (nth_line k s) s)

abbrev pub unit : ℕ → ℕ → Option ℕ → Option Question
unit lowest count part = Some (record { lowest = lowest; count = count; part = part })

abbrev pub unit_with_part : ℕ → ℕ → Option ℕ → Option Question
unit_with_part lowest count (Some p) = unit lowest count (Some p)
unit_with_part lowest count None = None

abbrev pub if_given : Option Line → ℕ → ℕ → Option ℕ → Option Question
if_given (Some line) lowest count part = unit_with_part lowest count part
if_given None lowest count part = unit lowest count None

abbrev pub asked : Option ℕ → Option ℕ → Option Line → Option ℕ → Option Question
asked (Some lowest) (Some count) fourth part = if_given fourth lowest count part
asked (Some lowest) None fourth part = None
asked None count fourth part = None

-- what is asked; nothing, where a line of it is no decimal number
unfoldable pub question : List ℕ → Option Question
question s = asked (number_in 1 s) (number_in 2 s) (nth_line 3 s) (number_in 3 s)

-- the first of two refusals; 0 is none
abbrev pub or_else : ℕ → ℕ → ℕ
or_else zero y = y
or_else (suc x) y = suc x

abbrev pub number_told : Option Refusal → ℕ
number_told None = 0
number_told (Some r) = number_of r

-- refused= and the number alone, or the text
abbrev pub refused_or : ℕ → List ℕ → List ℕ
refused_or zero text = text
refused_or (suc n) text = line refused_key (suc n)

-- "hand=", and: that one, equal, older, not listed
abbrev pub hand_text : Result Hand Refusal → List ℕ
hand_text (Ok hand.ThatOne) = 104 ∷ 97 ∷ 110 ∷ 100 ∷ 61 ∷ 116 ∷ 104 ∷ 97 ∷ 116 ∷ 32 ∷ 111 ∷ 110 ∷ 101 ∷ 10 ∷ []
hand_text (Ok hand.Equal) = 104 ∷ 97 ∷ 110 ∷ 100 ∷ 61 ∷ 101 ∷ 113 ∷ 117 ∷ 97 ∷ 108 ∷ 10 ∷ []
hand_text (Ok hand.Older) = 104 ∷ 97 ∷ 110 ∷ 100 ∷ 61 ∷ 111 ∷ 108 ∷ 100 ∷ 101 ∷ 114 ∷ 10 ∷ []
hand_text (Ok hand.NotListed) =
    104 ∷ 97 ∷ 110 ∷ 100 ∷ 61 ∷ 110 ∷ 111 ∷ 116 ∷ 32 ∷ 108 ∷ 105 ∷ 115 ∷ 116 ∷ 101 ∷ 100 ∷ 10 ∷ []
hand_text (Err r) = line refused_key (number_of r)

abbrev pub hand_line : List ℕ → ℕ → ℕ → Option ℕ → List ℕ
hand_line m lowest count (Some p) = hand_text (part_in_hand m lowest count p)
hand_line m lowest count None = []

-- the cell to order, its part and its release, and then the part in hand; or 12 alone
abbrev pub answered : Result Best Refusal → List ℕ → List ℕ
answered (Ok b) more = cell_text b.cell b.value ++ more
answered (Err r) more = line refused_key (number_of r)

unfoldable pub answer_text : List ℕ → ℕ → ℕ → Option ℕ → List ℕ
answer_text m lowest count part = answered (cell_to_order m lowest count) (hand_line m lowest count part)

-- 1 and 4 of the medium as it is handed in, then recovery's 2
unfoldable pub refusal_for : List ℕ → ℕ → ℕ → ℕ
refusal_for m lowest count = or_else (answers.number_in (span_refusal m lowest count)) (refusal_of (started m).answer)

abbrev pub screen_for : Option Question → List ℕ → List ℕ
screen_for (Some q) m = refused_or (refusal_for m q.lowest q.count) (answer_text (recovered m).medium q.lowest q.count q.part)
screen_for None m = line refused_key (pick (is_head_ok m) 4 1)

-- WHAT THE COUNTER SAYS of a medium to what it is asked
unfoldable pub screen_text : List ℕ → List ℕ → List ℕ
screen_text s m = screen_for (question s) m

-- what is said of a table of n cells, without a medium
abbrev pub hand_line_for : ℕ → List ℕ → ℕ → ℕ → Option ℕ → List ℕ
hand_line_for n t lowest count (Some p) = hand_text (hand_for n t lowest count p)
hand_line_for n t lowest count None = []

abbrev pub said_of : ℕ → List ℕ → Option Question → List ℕ
said_of n t (Some q) = answered (order_for n t q.lowest q.count) (hand_line_for n t q.lowest q.count q.part)
said_of n t None = line refused_key 4

-- AFTER ANY HISTORY the counter says what is to be said of the table worked out afresh from the stored transactions
abbrev pub SaysAfresh : Type 0
SaysAfresh =
    (n c : ℕ) (k : Keeper) (es : List Event) → History n c k es → (s : List ℕ)
    → screen_text s (reached n c k es).medium ≡ said_of n (wanted n c k es) (question s)

-- the unit that the code works with: beyond 32 bits a number is above any N, and so is that of a line that is none
unfoldable pub least : ℕ → ℕ
least n = pick (ltb n 4294967296) n 4294967295

abbrev pub lowest_of : Option Question → ℕ
lowest_of (Some q) = least q.lowest
lowest_of None = 4294967295

abbrev pub count_of : Option Question → ℕ
count_of (Some q) = least q.count
count_of None = 0

abbrev pub part_of : Option Question → Option ℕ
part_of (Some q) = q.part
part_of None = None
