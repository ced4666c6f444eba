-- The answers on a medium: what 1 and 4 say beside what the answers say of a table; and, with demand 3, that after recovery of a history's
-- medium they are those for the table worked out afresh.
use Prim.Native.Nat.{ℕ, ◌+◌}
use mathlib.Core.Path.{◌≡◌, refl, sym, ap, ◌∙◌}
use mathlib.Core.Bool.{Bool, true, false}
use mathlib.Core.Logic.{inl, inr}
use mathlib.Core.List.{List}
use borrow.Author.Tests.{leb-true, leb-false, le-leb, lt-leb}
use lib.Dec.{leb}
use Rattle.scope.specs.Bytes.{pick, number_at}
use Rattle.scope.specs.Keeper.{Keeper, is_head_ok}
use Rattle.scope.specs.Recovery.{table_of}
use Rattle.scope.specs.Refusals.{RecoveryStep}
use Rattle.scope.specs.Calls.{act}
use Rattle.scope.specs.History.{Event, History, reached, wanted}
use Rattle.recovered.specs.Recovered.{recovered}
use Rattle.recovered.proofs.Afresh.{Afresh, recovered-afresh, ended-afresh}
use Rattle.std.specs.Prelude.{Result, Ok, Err}
use Rattle.std.specs.Result.{result_and}
use Rattle.answer.specs.declared.Refusal.{Refusal}
use Rattle.answer.specs.declared.Refusal.TheVariants.{Unfit, NoCell}
use Rattle.counter.specs.declared.Best.{Best}
use Rattle.counter.specs.declared.Hand.{Hand}
use Rattle.counter.specs.Counter.{table_in, in_table, span_refusal, order_in, hand_in, cell_to_order, part_in_hand}
use Rattle.counter.specs.Claims.{OrderSays, HandSays, OnMedium, order_for, hand_for, AsAfresh, RecoveredAnswers, EndedAnswers}
use Rattle.counter.proofs.Answers.{order_says, says_order, hand_says, says_hand}

-- any answer that is refused as its span is or says something of the table

module _ {A : Type 0} (m : List ℕ) (lowest count : ℕ) (Says : Result A Refusal → Type 0) (a : Result A Refusal) where
  abbrev judged : Bool → Bool → Result Unit Refusal
  judged t u = pick t (pick u (Ok tt) (Err NoCell)) (Err Unfit)

  abbrev answer : Bool → Bool → Result A Refusal
  answer t u = result_and (judged t u) a

  says_on : Says a → OnMedium m lowest count Says (result_and (span_refusal m lowest count) a)
  unfolding span_refusal
  says_on s = go (is_head_ok m) (leb (lowest + count) (number_at 4 0 m)) refl refl
    where
      go : (t u : Bool) → is_head_ok m ≡ t → leb (lowest + count) (number_at 4 0 m) ≡ u → OnMedium m lowest count Says (answer t u)
      go true true p q = inr (inr (p, leb-true (lowest + count) (number_at 4 0 m) q, s))
      go true false p q = inr (inl (p, leb-false (lowest + count) (number_at 4 0 m) q, refl))
      go false u p q = inl (p, refl)

  on_says : (b : Result A Refusal) → (Says b → a ≡ b) → OnMedium m lowest count Says b → result_and (span_refusal m lowest count) a ≡ b
  unfolding span_refusal
  on_says b f (inl (p, e)) = ap (λ t. answer t (leb (lowest + count) (number_at 4 0 m))) p ∙ sym e
  on_says b f (inr (inl (p, l, e))) = (λ i. answer (p i) (lt-leb (lowest + count) (number_at 4 0 m) l i)) ∙ sym e
  on_says b f (inr (inr (p, l, s))) = (λ i. answer (p i) (le-leb (lowest + count) (number_at 4 0 m) l i)) ∙ f s

-- THE ANSWERS ON A MEDIUM say what they say, and only then

module _ (m : List ℕ) (lowest count : ℕ) where
  pub order_on : OnMedium m lowest count (OrderSays (table_in m) lowest count) (cell_to_order m lowest count)
  unfolding cell_to_order
  order_on = says_on m lowest count (OrderSays (table_in m) lowest count) (order_in (table_in m) lowest count) (order_says (table_in m) lowest count)

  pub on_order : (a : Result Best Refusal) → OnMedium m lowest count (OrderSays (table_in m) lowest count) a → cell_to_order m lowest count ≡ a
  unfolding cell_to_order
  on_order a = on_says m lowest count (OrderSays (table_in m) lowest count) (order_in (table_in m) lowest count) a (says_order (table_in m) lowest count a)

  module _ (p : ℕ) where
    pub hand_on : OnMedium m lowest count (HandSays (table_in m) lowest count p) (part_in_hand m lowest count p)
    unfolding part_in_hand
    hand_on = says_on m lowest count (HandSays (table_in m) lowest count p) (hand_in (table_in m) lowest count p) (hand_says (table_in m) lowest count p)

    pub on_hand : (a : Result Hand Refusal) → OnMedium m lowest count (HandSays (table_in m) lowest count p) a → part_in_hand m lowest count p ≡ a
    unfolding part_in_hand
    on_hand a = on_says m lowest count (HandSays (table_in m) lowest count p) (hand_in (table_in m) lowest count p) a (says_hand (table_in m) lowest count p a)

-- AFTER RECOVERY

module _ (n c : ℕ) (t m : List ℕ) (e : table_of n c m ≡ t) (ok : is_head_ok m ≡ true) (cells : number_at 4 0 m ≡ n) (slots : number_at 4 4 m ≡ c) (lowest count : ℕ) where
  table : table_in m ≡ t
  unfolding table_in
  table = (λ i. table_of (cells i) (slots i) m) ∙ e

  span : span_refusal m lowest count ≡ in_table n lowest count
  unfolding span_refusal
  span = λ i. pick (ok i) (in_table (cells i) lowest count) (Err Unfit)

  order_same : cell_to_order m lowest count ≡ order_for n t lowest count
  unfolding cell_to_order order_for
  order_same = λ i. result_and (span i) (order_in (table i) lowest count)

  hand_same : (p : ℕ) → part_in_hand m lowest count p ≡ hand_for n t lowest count p
  unfolding part_in_hand hand_for
  hand_same p = λ i. result_and (span i) (hand_in (table i) lowest count p)

as_afresh : (n c : ℕ) (k : Keeper) (es : List Event) (h : History n c k es) (e : Keeper) → Afresh n c k es h e → AsAfresh n c k es e.medium
as_afresh n c k es h e (q, ok, cells, slots) lowest count =
    (order_same n c (wanted n c k es) e.medium q ok cells slots lowest count, hand_same n c (wanted n c k es) e.medium q ok cells slots lowest count)

pub recovered-answers : RecoveredAnswers
recovered-answers n c k es h = as_afresh n c k es h (recovered (reached n c k es).medium) (recovered-afresh n c k es h)

pub ended-answers : EndedAnswers
ended-answers n c k es h e = as_afresh n c k es h (act RecoveryStep (reached n c k es)).keeper (ended-afresh n c k es h e)
