-- After any history the counter says what is to be said of the table worked out afresh: its medium's head is in rule, its recovery is
-- accepted, and the answers are then those for that table.
use Prim.Native.Nat.{ℕ, ◌+◌}
use mathlib.Core.Path.{◌≡◌, refl, ap, ◌∙◌}
use mathlib.Core.Bool.{Bool, true, false}
use mathlib.Core.List.{List}
use lib.Dec.{leb}
use Rattle.scope.specs.Bytes.{pick}
use Rattle.scope.specs.Keeper.{Keeper, refusal_of}
use Rattle.scope.specs.History.{Event, History, reached, wanted}
use Rattle.recovered.specs.Recovered.{recovered}
use Rattle.recovered.proofs.Afresh.{history_head, recovered-accepted}
use Rattle.text.specs.Text.{line, refused_key}
use Rattle.std.specs.Prelude.{Option, Some, None, Result, Ok, Err}
use Rattle.std.specs.Result.{result_and}
use Rattle.answer.specs.Answer as answers
use Rattle.answer.specs.declared.Refusal.{Refusal}
use Rattle.answer.specs.declared.Refusal.TheVariants.{Unfit, NoCell}
use Rattle.counter.specs.Counter.{in_table, span_refusal, order_in}
use Rattle.counter.specs.Claims.{order_for}
use Rattle.counter.proofs.OnMedia.{recovered-answers}
use Rattle.counter_text.specs.declared.Question.{Question}
use Rattle.counter_text.specs.Screen.{question, or_else, refused_or, hand_text, hand_line, answered, answer_text, refusal_for, screen_for, screen_text, hand_line_for, said_of, SaysAfresh}

module _ (n c : ℕ) (k : Keeper) (es : List Event) (h : History n c k es) where
  abbrev m : List ℕ
  m = (reached n c k es).medium

  abbrev t : List ℕ
  t = wanted n c k es

  module _ (lowest count : ℕ) where
    abbrev judged : Bool → Result Unit Refusal
    judged u = pick u (Ok tt) (Err NoCell)

    -- 4, or none
    abbrev number : ℕ
    number = answers.number_in (in_table n lowest count)

    refusal : refusal_for m lowest count ≡ number
    unfolding refusal_for span_refusal
    refusal =
        let e = history_head n c k es h in
        (λ i. or_else (answers.number_in (pick (e.0 i) (in_table (e.1 i) lowest count) (Err Unfit))) (refusal_of (recovered-accepted n c k es h i)))
        ∙ go (leb (lowest + count) n)
      where
        go : (b : Bool) → ◌≡◌ {A = ℕ} (or_else (answers.number_in (judged b)) 0) (answers.number_in (judged b))
        go true = refl
        go false = refl

    hand-line : (p : Option ℕ) → hand_line (recovered m).medium lowest count p ≡ hand_line_for n t lowest count p
    hand-line (Some p) = ap hand_text ((recovered-answers n c k es h lowest count).1 p)
    hand-line None = refl

    -- the refusal stands in the answer for the table too
    refused-once : (more : List ℕ) → refused_or number (answered (order_for n t lowest count) more) ≡ answered (order_for n t lowest count) more
    unfolding order_for
    refused-once more = go (leb (lowest + count) n)
      where
        go : (b : Bool) → refused_or (answers.number_in (judged b)) (answered (result_and (judged b) (order_in t lowest count)) more) ≡ answered (result_and (judged b) (order_in t lowest count)) more
        go true = refl
        go false = refl

    unit_said : (p : Option ℕ) → screen_for (Some (record { lowest = lowest; count = count; part = p })) m ≡ said_of n t (Some (record { lowest = lowest; count = count; part = p }))
    unfolding answer_text
    unit_said p =
        (λ i. refused_or (refusal i) (answered ((recovered-answers n c k es h lowest count).0 i) (hand-line p i)))
        ∙ refused-once (hand_line_for n t lowest count p)

  question_said : (q : Option Question) → screen_for q m ≡ said_of n t q
  question_said (Some q) = unit_said q.lowest q.count q.part
  question_said None = ap (λ b. line refused_key (pick b 4 1)) (history_head n c k es h).0

pub says-afresh : SaysAfresh
unfolding screen_text
says-afresh n c k es h s = question_said n c k es h (question s)
