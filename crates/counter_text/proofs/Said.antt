-- What is asked and what is said: a question line by line; the room that each answer takes; and that a number past 32 bits is refused as
-- the greatest of 32 bits is.
use Prim.Native.Nat.{ℕ, zero, suc, ◌+◌, ◌≤◌, ◌<◌}
use mathlib.Core.Path.{◌≡◌, refl, sym, ap, ◌∙◌}
use mathlib.Core.Bool.{Bool, true, false}
use mathlib.Core.Logic.{inl, inr}
use mathlib.Core.List.{List, [], ◌++◌, append_assoc, append-nil}
use native.Mathlib.Decide.{dec_le}
use native.Mathlib.Omega.{arith}
use borrow.Author.Tests.{lt-ltb, le-ltb, lt-leb, ltb-false}
use lib.Dec.{ltb}
use lib.ListN.{length, length-append}
use Rattle.scope.specs.Bytes.{pick, number_at}
use Rattle.scope.specs.Keeper.{is_head_ok, refusal_of}
use Rattle.recovery.proofs.Recovering.{head_fits}
use Rattle.recovered.specs.Recovered.{started, recovered, Recovers}
use Rattle.recovered.specs.declared.Recovered.{Recovered}
use Rattle.text.specs.Text.{line, refused_key, cell_text}
use Rattle.text.proofs.Writing.{length_line_32, length_cell}
use Rattle.lines.specs.Lines.{nth_line}
use Rattle.std.specs.Prelude.{Option, Some, None, Result, Ok, Err}
use Rattle.std.specs.Option.{option_or}
use Rattle.std.specs.Result.{OkIff, result_err, result_unwrap_or}
use Rattle.answer.specs.Answer as answers
use Rattle.answer.specs.Answer.{number_of}
use Rattle.answer.specs.declared.Refusal.{Refusal}
use Rattle.answer.specs.declared.Refusal.TheVariants.{Unfit, Malformed, NoTransaction, NoCell, Full, UsedUp, BadRow, NotStored, NotACut, WrongPhase, NoEntry, NoPart}
use Rattle.answer.proofs.Refusals.{number-above}
use Rattle.lines.specs.declared.Line.{Line}
use Rattle.counter.specs.declared.Best.{Best}
use Rattle.counter.specs.declared.Hand.{Hand}
use Rattle.counter.specs.declared.Hand.TheVariants as hand
use Rattle.counter.specs.Claims.{OrderSays, OnMedium}
use Rattle.counter.proofs.OnMedia.{order_on}
use Rattle.counter.specs.Counter.{table_in, in_table, span_refusal, cell_to_order, part_in_hand}
use Rattle.counter_text.specs.declared.Question.{Question}
use Rattle.counter_text.specs.Screen.{number_in, unit, unit_with_part, if_given, asked, question, or_else, number_told, refused_or, hand_text, hand_line, answered, answer_text, refusal_for, screen_for, screen_text, least, lowest_of, count_of, part_of}

-- the question, line by line

module _ (s : List ℕ) where
  pub no_lowest : number_in 1 s ≡ None → None ≡ question s
  unfolding question
  no_lowest e = sym (ap (λ x. asked x (number_in 2 s) (nth_line 3 s) (number_in 3 s)) e)

  module _ (lowest : ℕ) (e : number_in 1 s ≡ Some lowest) where
    pub no_count : number_in 2 s ≡ None → None ≡ question s
    unfolding question
    no_count f = sym (λ i. asked (e i) (f i) (nth_line 3 s) (number_in 3 s))

    module _ (count : ℕ) (f : number_in 2 s ≡ Some count) where
      unit_asked : if_given (nth_line 3 s) lowest count (number_in 3 s) ≡ question s
      unfolding question
      unit_asked = sym (λ i. asked (e i) (f i) (nth_line 3 s) (number_in 3 s))

      pub no_part : nth_line 3 s ≡ None → unit lowest count None ≡ question s
      no_part g = sym (ap (λ x. if_given x lowest count (number_in 3 s)) g) ∙ unit_asked

      module _ (fourth : Line) (g : nth_line 3 s ≡ Some fourth) where
        part-asked : unit_with_part lowest count (number_in 3 s) ≡ question s
        part-asked = sym (ap (λ x. if_given x lowest count (number_in 3 s)) g) ∙ unit_asked

        pub bad_part : number_in 3 s ≡ None → None ≡ question s
        bad_part h = sym (ap (unit_with_part lowest count) h) ∙ part-asked

        pub with_part : (p : ℕ) → number_in 3 s ≡ Some p → unit lowest count (Some p) ≡ question s
        with_part p h = sym (ap (unit_with_part lowest count) h) ∙ part-asked

-- the unit

module _ (n : ℕ) where
  least-same : n < 4294967296 → n ≡ least n
  unfolding least
  least-same h = simp (lt-ltb n 4294967296 h)

  least_most : 4294967296 ≤ n → 4294967295 ≡ least n
  unfolding least
  least_most h = simp (le-ltb n 4294967296 h)

  pub least_is : {E : Type 0} (r : Result ℕ E) → OkIff r (n < 4294967296) n → result_unwrap_or r 4294967295 ≡ least n
  least_is (Ok x) h = h.1 ∙ least-same h.0
  least_is (Err e) h = go (dec_le 4294967296 n)
    where
      go : Dec (4294967296 ≤ n) → 4294967295 ≡ least n
      go (yes q) = least_most q
      go (no q) = absurd (h (omega arith))

-- a number past 32 bits is above any N

abbrev span_judged : Bool → Result Unit Refusal
span_judged u = pick u (Ok tt) (Err NoCell)

module _ (m : List ℕ) where
  abbrev no_of : ℕ → ℕ → ℕ
  no_of l n = answers.number_in (span_refusal m l n)

  far : (l n : ℕ) → 4294967295 ≤ l + n → no_of l n ≡ pick (is_head_ok m) 4 1
  unfolding span_refusal
  far l n h = go (is_head_ok m) refl
    where
      go : (t : Bool) → t ≡ is_head_ok m → ◌≡◌ {A = ℕ} (answers.number_in (pick t (in_table (number_at 4 0 m) l n) (Err Unfit))) (pick t 4 1)
      go true e = let f = (head_fits m true e refl).cells≤ in ap (λ u. answers.number_in (span_judged u)) (lt-leb (l + n) (number_at 4 0 m) (omega arith))
      go false e = refl

  -- refused at once, whatever else would be said
  far_text : (l n y : ℕ) (t : List ℕ) → 4294967295 ≤ l + n → refused_or (or_else (no_of l n) y) t ≡ line refused_key (pick (is_head_ok m) 4 1)
  far_text l n y t h = ap (λ x. refused_or (or_else x y) t) (far l n h) ∙ go (is_head_ok m)
    where
      go : (u : Bool) → refused_or (or_else (pick u 4 1) y) t ≡ line refused_key (pick u 4 1)
      go true = refl
      go false = refl

  abbrev said : ℕ → ℕ → Option ℕ → List ℕ
  said l n p = refused_or (or_else (no_of l n) (refusal_of (started m).answer)) (answer_text (recovered m).medium l n p)

  said_least : (l n : ℕ) (p : Option ℕ) → said (least l) (least n) p ≡ said l n p
  unfolding least
  said_least l n p = go (ltb l 4294967296) (ltb n 4294967296) refl refl
    where
      far_both : (a b : ℕ) → 4294967295 ≤ a + b → 4294967295 ≤ l + n → said a b p ≡ said l n p
      far_both a b h k = far_text a b _ _ h ∙ sym (far_text l n _ _ k)

      go : (t u : Bool) → ltb l 4294967296 ≡ t → ltb n 4294967296 ≡ u → said (pick t l 4294967295) (pick u n 4294967295) p ≡ said l n p
      go true true e f = refl
      go true false e f = far_both l 4294967295 (omega arith) (omega (arith, ltb-false n 4294967296 f))
      go false true e f = far_both 4294967295 n (omega arith) (omega (arith, ltb-false l 4294967296 e))
      go false false e f = far_both 4294967295 4294967295 (omega arith) (omega (arith, ltb-false l 4294967296 e))

  screen_said : (s : List ℕ) (q : Option Question) → q ≡ question s
      → said (lowest_of q) (count_of q) (part_of q) ≡ screen_text s m
  unfolding screen_text refusal_for
  screen_said s q e = go q ∙ ap (λ x. screen_for x m) e
    where
      go : (x : Option Question) → said (lowest_of x) (count_of x) (part_of x) ≡ screen_for x m
      go (Some q) = said_least q.lowest q.count q.part
      go None = far_text 4294967295 0 _ _ (omega arith)

-- the first of two refusals

first_told : (n y : ℕ) → (n ≡ 0 → ⊥) → n ≡ or_else n y
first_told zero y h = absurd (h refl)
first_told (suc n) y h = refl

told_first : {A B : Type 0} (x : Result A Refusal) (o : Result B Refusal) → number_told (option_or (result_err x) (result_err o)) ≡ or_else (answers.number_in x) (answers.number_in o)
told_first (Ok a) (Ok b) = refl
told_first (Ok a) (Err r) = refl
told_first (Err r) o = first_told (number_of r) (answers.number_in o) (number-above r)

-- the number of a start
start_number : (m m' : List ℕ) (o : Result Recovered Refusal) → Recovers m o m' → answers.number_in o ≡ refusal_of (started m).answer
start_number m m' (Ok s) r = ap refusal_of r.answer
start_number m m' (Err x) r = ap refusal_of r.answer

-- what the code says is what is asked for
pub screen_is : (m m' s : List ℕ) (q : Option Question) (x : Result Unit Refusal) (o : Result Recovered Refusal) (y : Option Refusal) (a b : ℕ) (p : Option ℕ)
    → q ≡ question s → (a ≡ lowest_of q) × (b ≡ count_of q) → p ≡ part_of q
    → x ≡ span_refusal m a b → Recovers m o m' → y ≡ option_or (result_err x) (result_err o) → refused_or (number_told y) (answer_text m' a b p) ≡ screen_text s m
screen_is m m' s q x o y a b p e u f g r h =
    let n : number_told y ≡ or_else (no_of m a b) (refusal_of (started m).answer) =
    ap number_told h ∙ told_first x o ∙ (λ i. or_else (answers.number_in (g i)) (start_number m m' o r i)) in
    (λ i. refused_or (n i) (answer_text (r.medium i) a b p))
    ∙ (λ i. said m (u.0 i) (u.1 i) (f i))
    ∙ screen_said m s q e

-- what is written

module _ (m : List ℕ) (l n : ℕ) (p : Option ℕ) where
  answer_cell : (b : Best) → Ok b ≡ cell_to_order m l n → answer_text m l n p ≡ cell_text b.cell b.value ++ hand_line m l n p
  unfolding answer_text
  answer_cell b e = sym (ap (λ z. answered z (hand_line m l n p)) e)

  pub answer_refused : (r : Refusal) → Err r ≡ cell_to_order m l n → answer_text m l n p ≡ line refused_key (number_of r)
  unfolding answer_text
  answer_refused r e = sym (ap (λ z. answered z (hand_line m l n p)) e)

  part_none : p ≡ None → hand_line m l n p ≡ []
  part_none e = ap (hand_line m l n) e

  part_said : (x : ℕ) → p ≡ Some x → hand_line m l n p ≡ hand_text (part_in_hand m l n x)
  part_said x e = ap (hand_line m l n) e

  module _ (t t₁ : List ℕ) (b : Best) (e : Ok b ≡ cell_to_order m l n) (w : t₁ ≡ t ++ cell_text b.cell b.value) where
    said_then : (more : List ℕ) → more ≡ hand_line m l n p → t₁ ++ more ≡ t ++ answer_text m l n p
    said_then more h =
        (λ i. w i ++ h i)
        ∙ append_assoc t (cell_text b.cell b.value) (hand_line m l n p)
        ∙ ap (λ a. t ++ a) (sym (answer_cell b e))

    pub said_with_part : (t₂ : List ℕ) (x : ℕ) (h : Result Hand Refusal) → p ≡ Some x → h ≡ part_in_hand m l n x → t₂ ≡ t₁ ++ hand_text h → t₂ ≡ t ++ answer_text m l n p
    said_with_part t₂ x h q r z = z ∙ said_then (hand_text h) (ap hand_text r ∙ sym (part_said x q))

    pub said_alone : p ≡ None → t₁ ≡ t ++ answer_text m l n p
    said_alone q = sym (append-nil t₁) ∙ said_then [] (sym (part_none q))

pub ruleset answer_lines = (length-append, length_cell, answer_refused)

-- THE MOST THAT IS SAID: 81 bytes, the three lines of a cell and that of a part in hand

small_number : (r : Refusal) → number_of r < 4294967296
small_number Unfit = omega arith
small_number (Malformed f) = omega arith
small_number NoTransaction = omega arith
small_number NoCell = omega arith
small_number Full = omega arith
small_number UsedUp = omega arith
small_number (BadRow f) = omega arith
small_number NotStored = omega arith
small_number NotACut = omega arith
small_number WrongPhase = omega arith
small_number NoEntry = omega arith
small_number NoPart = omega arith

refused_most : (r : Refusal) → length (line refused_key (number_of r)) ≤ 19
refused_most r = length_line_32 refused_key (number_of r) (small_number r)

hand_most : (h : Result Hand Refusal) → length (hand_text h) ≤ 19
hand_most (Ok hand.ThatOne) = omega arith
hand_most (Ok hand.Equal) = omega arith
hand_most (Ok hand.Older) = omega arith
hand_most (Ok hand.NotListed) = omega arith
hand_most (Err r) = refused_most r

module _ (m : List ℕ) (l n : ℕ) where
  hand_line_most : (p : Option ℕ) → length (hand_line m l n p) ≤ 19
  hand_line_most (Some x) = hand_most (part_in_hand m l n x)
  hand_line_most None = omega arith

  -- the cell to order is one of the table's
  cell_small : (b : Best) → OnMedium m l n (OrderSays (table_in m) l n) (Ok b) → b.cell < 4294967296
  cell_small b (inl (p, e)) = let z : ◌≡◌ {A = ℕ} 0 1 = cc in absurd (omega (arith, z))
  cell_small b (inr (inl (p, k, e))) = let z : ◌≡◌ {A = ℕ} 0 1 = cc in absurd (omega (arith, z))
  cell_small b (inr (inr (p, k, s))) = let h = (head_fits m true (sym p) refl).cells≤ in omega (arith, k, s.0.in_span.1)

  pub answer_fits : (p : Option ℕ) → length (answer_text m l n p) ≤ 81
  unfolding answer_text
  answer_fits p = go (cell_to_order m l n) (order_on m l n)
    where
      go : (o : Result Best Refusal) → OnMedium m l n (OrderSays (table_in m) l n) o → length (answered o (hand_line m l n p)) ≤ 81
      go (Ok b) s = omega (arith, length-append (cell_text b.cell b.value) (hand_line m l n p), length_cell b.cell b.value (cell_small b s), hand_line_most p)
      go (Err r) s = omega (arith, refused_most r)

-- one refusal, or the answers

refused_text : (n : ℕ) (a : List ℕ) → (n ≡ 0 → ⊥) → refused_or n a ≡ line refused_key n
refused_text zero a h = absurd (h refl)
refused_text (suc n) a h = refl

pub screen_refused : (r : Refusal) (a : List ℕ) → refused_or (number_of r) a ≡ line refused_key (number_of r)
screen_refused r a = refused_text (number_of r) a (number-above r)

pub ruleset screens = screen_refused
