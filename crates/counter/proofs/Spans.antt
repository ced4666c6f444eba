-- What each function of the counter rests on: one cell more; the span that remains; and that the table view of a head in rule holds N cells, so
-- a span within N lies in it.
use Prim.Native.Nat.{ℕ, zero, suc, ◌+◌, ◌*◌, ◌-◌, ◌≤◌, ◌<◌}
use mathlib.Core.Path.{◌≡◌, refl, sym, ap, ◌∙◌}
use mathlib.Core.Bool.{Bool, true, false, true≢false}
use mathlib.Core.List.{List}
use native.Mathlib.Omega.{arith}
use borrow.Author.Tests.{eq-eqb, ne_eqb, le-leb, lt-leb, leb-true}
use lib.Dec.{leb}
use lib.ListN.{length, get_or, drop, length-drop}
use Rattle.scope.specs.Bytes.{pick, number_at}
use Rattle.scope.specs.Keeper.{is_head_ok, refusal_of, part_of, cells_of}
use Rattle.scope.specs.Recovery.{table_of}
use Rattle.scope.specs.Refusals.{TableView, refusal, tests}
use Rattle.scope.specs.Calls.{act, performed}
use Rattle.medium.specs.Lent.{on_medium}
use Rattle.medium.proofs.Heads.{view_refused}
use Rattle.medium.proofs.Cells.{cell-value}
use Rattle.recovery.proofs.Recovering.{Head, head_fits}
use Rattle.std.specs.Prelude.{Option, Some, None, Result, Ok, Err, ok_or, is_ok, IsErrAnd}
use Rattle.std.proofs.lemmas.Result.{err_from_is_err_and}
use Rattle.std.specs.Result.{result_and}
use Rattle.answer.specs.Answer.{number_of}
use Rattle.answer.specs.declared.Refusal.{Refusal}
use Rattle.answer.specs.declared.Refusal.TheVariants.{Unfit, NoCell, NoPart}
use Rattle.answer.proofs.Refusals.{number-above, told-beside, refusal-same}
use Rattle.counter.specs.declared.Hand.TheVariants as hand
use Rattle.counter.specs.declared.Best.{Best}
use Rattle.counter.specs.Counter.{part_number, counts, best_cell, better, best_with_cell, best_from, best_in, table_in, in_table, span_refusal, order_in, cell_to_order, against, handed, hand_in, part_in_hand}

-- one cell more

module _ (s : Option ℕ) (c v : ℕ) (b : Option Best) (t : Bool) (e : t ≡ counts s v) where
  pub cell_passed : t ≡ false → b ≡ best_with_cell s c v b
  unfolding best_with_cell
  cell_passed p = simp (← e, p)

  pub cell-counted : t ≡ true → better c v b ≡ best_with_cell s c v b
  unfolding best_with_cell
  cell-counted p = simp (← e, p)

-- the span that remains

module _ (s : Option ℕ) (t : List ℕ) (c : ℕ) (b : Option Best) where
  from_again : (left : ℕ) → 0 < left → best_from s t c left b ≡ best_from s t (c + 1) (left - 1) (best_with_cell s c (get_or t c 0) b)
  unfolding best_from
  from_again zero h = absurd (omega arith)
  from_again (suc left) h = let z : left ≡ suc left - 1 = omega arith in ap (λ l. best_from s t (c + 1) l (best_with_cell s c (get_or t c 0) b)) z

  from_end : (left : ℕ) → left ≡ 0 → b ≡ best_from s t c left b
  unfolding best_from
  from_end zero e = refl
  from_end (suc left) e = absurd (omega arith)

module _ (s : Option ℕ) (table : List ℕ) (end i : ℕ) (b : Option Best) where
  abbrev T : List ℕ
  T = cells_of end table

  pub best_start : (count : ℕ) → end ≡ i + count → b ≡ None → best_in s T i count ≡ best_from s T i (end - i) b
  unfolding best_in
  best_start count e q =
      let z : count ≡ end - i = omega arith in
      λ j. best_from s T i (z j) (sym q j)

  pub best_again : (at v : ℕ) (d : Option Best) → i < end → at ≡ 8 * i → v ≡ number_at 8 at table → d ≡ best_with_cell s i v b
      → best_from s T i (end - i) b ≡ best_from s T (i + 1) (end - (i + 1)) d
  best_again at v d h a e q =
      let z : end - i - 1 ≡ end - (i + 1) = omega arith in
      let x : get_or T i 0 ≡ v = cell-value end i table h ∙ ap (λ j. number_at 8 j table) (sym a) ∙ sym e in
      from_again s T i b (end - i) (omega arith)
      ∙ (λ j. best_from s T (i + 1) (z j) (best_with_cell s i (x j) b))
      ∙ ap (best_from s T (i + 1) (end - (i + 1))) (sym q)

  pub best_end : end ≤ i → b ≡ best_from s T i (end - i) b
  best_end h = from_end s T i b (end - i) (omega arith)

-- only the span's cells matter

from_same : (s : Option ℕ) (t u : List ℕ) (c left : ℕ) (b : Option Best) → ((i : ℕ) → c ≤ i → i < c + left → get_or t i 0 ≡ get_or u i 0) → best_from s t c left b ≡ best_from s u c left b
unfolding best_from
from_same s t u c zero b h = refl
from_same s t u c (suc left) b h =
    ap (λ v. best_from s t (c + 1) left (best_with_cell s c v b)) (h c (omega arith) (omega arith))
    ∙ from_same s t u (c + 1) left (best_with_cell s c (get_or u c 0) b) (λ i a l. h i (omega arith) (omega arith))

-- the table view of a head in rule

module _ (m table : List ℕ) (ok : is_head_ok m ≡ true) (q : table ≡ part_of (act TableView (on_medium m)).answer) where
  view_table : table ≡ drop (32 + 32 * number_at 4 4 m) m
  unfolding act performed refusal tests on_medium
  view_table = q ∙ simp ok

  view_head : Head m
  view_head = head_fits m true (sym ok) refl

  view_length : length table ≡ 8 * number_at 4 0 m
  view_length = let l = view_head.long in omega (arith, ap length view_table, length-drop (32 + 32 * number_at 4 4 m) m)

-- the refusals of a span

ok_is_no_refusal : {r : Refusal} → ◌≡◌ {A = Result Unit Refusal} (Ok tt) (Err r) → ⊥
ok_is_no_refusal e = true≢false (ap is_ok e)

-- what a `?` hands on

pub handed_on : {T : Type 0} {x : Refusal} {r : Result T Refusal} → IsErrAnd r (λ y. y ≡ x) → r ≡ Err x
handed_on {r = r} i = let p = err_from_is_err_and r i in p.1 ∙ ap Err p.2

pub no_best : {x : Refusal} (p : ℕ) (b d : Option Best) → Err x ≡ ok_or b NoPart → Err x ≡ handed p b d
no_best p (Some b) d e = absurd (true≢false (sym (ap is_ok e)))
no_best p None d e = ap (λ r. result_and r (handed p None d)) e

number_one : (r : Refusal) → number_of r ≡ 1 → Unfit ≡ r
number_one r e = sym (refusal-same r Unfit e (told-beside r (λ z. omega arith) (λ z. omega arith)))

module _ (m : List ℕ) (lowest count : ℕ) where
  pub refused_view : (r : Refusal) → number_of r ≡ refusal_of (act TableView (on_medium m)).answer → Err r ≡ span_refusal m lowest count
  unfolding span_refusal act performed refusal tests on_medium
  refused_view r e = go (is_head_ok m) refl
    where
      go : (t : Bool) → is_head_ok m ≡ t → Err r ≡ pick t (in_table (number_at 4 0 m) lowest count) (Err Unfit)
      go true p = absurd (number-above r (e ∙ simp p))
      go false p = ap Err (sym (number_one r (e ∙ simp p)))

  view_ok : 0 ≡ refusal_of (act TableView (on_medium m)).answer → is_head_ok m ≡ true
  view_ok e = go (is_head_ok m) refl
    where
      go : (t : Bool) → is_head_ok m ≡ t → is_head_ok m ≡ true
      go true p = p
      go false p = absurd (omega (arith, view_refused m p))

  module _ (h : 0 ≡ refusal_of (act TableView (on_medium m)).answer) (table : List ℕ) (q : table ≡ part_of (act TableView (on_medium m)).answer) where
    pub refused_span : length table < 8 * (lowest + count) → Err NoCell ≡ span_refusal m lowest count
    unfolding span_refusal
    refused_span l =
        let ok = view_ok h in
        let z = lt-leb (lowest + count) (number_at 4 0 m) (omega (arith, view_length m table ok q)) in simp (ok, z)

    pub span_accepted : 8 * (lowest + count) ≤ length table → Ok tt ≡ span_refusal m lowest count
    unfolding span_refusal
    span_accepted l =
        let ok = view_ok h in
        let z = le-leb (lowest + count) (number_at 4 0 m) (omega (arith, view_length m table ok q)) in simp (ok, z)

  -- the answers of a refused span

  module _ (r : Refusal) (e : Err r ≡ span_refusal m lowest count) where
    pub order_refused : Err r ≡ cell_to_order m lowest count
    unfolding cell_to_order
    order_refused = ap (λ x. result_and x (order_in (table_in m) lowest count)) e

    pub hand_refused : (p : ℕ) → Err r ≡ part_in_hand m lowest count p
    unfolding part_in_hand
    hand_refused p = ap (λ x. result_and x (hand_in (table_in m) lowest count p)) e

  -- .. and of one that is not: it lies in the table view

  module _ (e : Ok tt ≡ span_refusal m lowest count) where
    span_in : (is_head_ok m ≡ true) × (lowest + count ≤ number_at 4 0 m)
    unfolding span_refusal
    span_in = go (is_head_ok m) (leb (lowest + count) (number_at 4 0 m)) refl refl e
      where
        go : (t u : Bool) → is_head_ok m ≡ t → leb (lowest + count) (number_at 4 0 m) ≡ u → ◌≡◌ {A = Result Unit Refusal} (Ok tt) (pick t (pick u (Ok tt) (Err NoCell)) (Err Unfit))
            → (is_head_ok m ≡ true) × (lowest + count ≤ number_at 4 0 m)
        go true true p q z = (p, leb-true (lowest + count) (number_at 4 0 m) q)
        go true false p q z = absurd (ok_is_no_refusal z)
        go false u p q z = absurd (ok_is_no_refusal z)

    module _ (table : List ℕ) (q : table ≡ part_of (act TableView (on_medium m)).answer) where
      pub span_lent : (8 * (lowest + count) ≤ length table) × (lowest + count ≤ 1024)
      span_lent =
          let s = span_in in
          let n = (view_head m table s.0 q).cells≤ in
          (omega (arith, view_length m table s.0 q, s.1), omega (arith, s.1))

      best_table : (s : Option ℕ) → best_in s (cells_of (lowest + count) table) lowest count ≡ best_in s (table_in m) lowest count
      unfolding best_in table_in table_of
      best_table s =
          let n = span_in.1 in
          let w = view_table m table span_in.0 q in
          from_same s (cells_of (lowest + count) table) (cells_of (number_at 4 0 m) (drop (32 + 32 * number_at 4 4 m) m)) lowest count None
          (λ i a l. cell-value (lowest + count) i table l ∙ ap (number_at 8 (8 * i)) w ∙ sym (cell-value (number_at 4 0 m) i (drop (32 + 32 * number_at 4 4 m) m) (omega arith)))

      module _ (b : Option Best) (f : b ≡ best_in None (cells_of (lowest + count) table) lowest count) where
        pub as_ordered : ok_or b NoPart ≡ cell_to_order m lowest count
        unfolding cell_to_order order_in
        as_ordered = ap (λ x. ok_or x NoPart) (f ∙ best_table None) ∙ ap (λ x. result_and x (order_in (table_in m) lowest count)) e

        pub as_handed : (p : ℕ) (d : Option Best) → d ≡ best_in (Some p) (cells_of (lowest + count) table) lowest count → handed p b d ≡ part_in_hand m lowest count p
        unfolding part_in_hand hand_in
        as_handed p d g =
            (λ i. handed p ((f ∙ best_table None) i) ((g ∙ best_table (Some p)) i))
            ∙ ap (λ x. result_and x (hand_in (table_in m) lowest count p)) e

        module _ (c v p n : ℕ) (g : b ≡ best_cell c v) (k : n ≡ part_number v) where
          pub hand_that : n ≡ p → Ok hand.ThatOne ≡ part_in_hand m lowest count p
          hand_that z =
              let listed = best_in (Some p) (cells_of (lowest + count) table) lowest count in
              sym (ap (λ x. Ok (pick x hand.ThatOne (against v listed))) (eq-eqb (part_number v) p (sym k ∙ z))) ∙ ap (λ x. handed p x listed) (sym g) ∙ as_handed p listed refl

          pub hand_other : (n ≡ p → ⊥) → (d : Option Best) → d ≡ best_in (Some p) (cells_of (lowest + count) table) lowest count
              → Ok (against v d) ≡ part_in_hand m lowest count p
          hand_other z d l =
              sym (ap (λ x. Ok (pick x hand.ThatOne (against v d))) (ne_eqb (part_number v) p (λ y. z (k ∙ y)))) ∙ ap (λ x. handed p x d) (sym g) ∙ as_handed p d l
