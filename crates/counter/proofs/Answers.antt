-- THE ANSWERS SAY WHAT THEY SAY, and only then: for any table and span. From the best cell of the span and the best that lists the part, of which there
-- is one at most.
use Prim.Native.Nat.{ℕ, ◌+◌, ◌≤◌, ◌<◌}
use mathlib.Core.Path.{◌≡◌, refl, sym, ap, ◌∙◌}
use mathlib.Core.Bool.{Bool, true, false, false≢true, not, ◌&&◌}
use mathlib.Core.Logic.{inl, inr, ◌≢◌}
use mathlib.Core.List.{List}
use native.Mathlib.Decide.{dec_le}
use native.Mathlib.Omega.{arith}
use borrow.Author.Tests.{ltb-true, ltb-false, eqb-true, eqb-false, lt-ltb, le-ltb, eq-eqb, ne_eqb}
use lib.Dec.{ltb, eqb}
use lib.ListN.{get_or}
use Rattle.scope.specs.Bytes.{pick}
use Rattle.answer.specs.declared.Refusal.{Refusal}
use Rattle.answer.specs.declared.Refusal.TheVariants.{NoPart}
use Rattle.counter.specs.declared.Hand.{Hand}
use Rattle.counter.specs.declared.Hand.TheVariants as hand
use Rattle.std.specs.Prelude.{Option, Some, None, Result, Ok, Err, ok_or}
use Rattle.counter.specs.declared.Best.{Best}
use Rattle.counter.specs.Counter.{part_number, major, minor, release, counts, best_cell, best_in, order_in, against, handed, hand_in}
use Rattle.counter.specs.Claims.{Above, SameRelease, InSpan, ToOrder, AllEmpty, OrderSays, Lists, HandSays}
use Rattle.counter.proofs.Chosen.{Chosen, BestOf, best-in, one_best}

-- a release as one number is ordered by major, then minor

minor_fits : (v : ℕ) → minor v < 65536
unfolding minor
minor_fits v = omega arith

module _ (v w : ℕ) where
  pub above_release : Above v w → release w < release v
  unfolding release
  above_release (inl h) = omega (arith, minor_fits v, minor_fits w)
  above_release (inr h) = omega (arith, h.0, h.1)

  pub release_above : release w < release v → Above v w
  unfolding release
  release_above h = go (dec_le (major v) (major w)) (dec_le (major w) (major v))
    where
      go : Dec (major v ≤ major w) → Dec (major w ≤ major v) → Above v w
      go (yes a) (yes b) = inr (omega arith, omega arith)
      go (yes a) (no b) = absurd (omega (arith, minor_fits v, minor_fits w))
      go (no a) b = inl (omega arith)

  pub same-release : SameRelease v w → release v ≡ release w
  unfolding release
  same-release h = omega (arith, h.0, h.1)

  pub release-same : release v ≡ release w → SameRelease v w
  unfolding release
  release-same h = go (dec_le (major v) (major w)) (dec_le (major w) (major v))
    where
      go : Dec (major v ≤ major w) → Dec (major w ≤ major v) → SameRelease v w
      go (yes a) (yes b) = (omega arith, omega arith)
      go (yes a) (no b) = absurd (omega (arith, minor_fits v, minor_fits w))
      go (no a) b = absurd (omega (arith, minor_fits v, minor_fits w))

-- which cells count

module _ (v : ℕ) where
  pub any_counts : v ≢ 0 → counts None v ≡ true
  unfolding counts
  any_counts h = simp (ne_eqb v 0 h)

  pub counts_any : counts None v ≡ true → v ≢ 0
  unfolding counts
  counts_any e z = false≢true (sym (ap not (eq-eqb v 0 z)) ∙ e)

  pub any_empty : counts None v ≡ false → v ≡ 0
  unfolding counts
  any_empty e = go (eqb v 0) refl e
    where
      go : (b : Bool) → eqb v 0 ≡ b → not b ≡ false → v ≡ 0
      go true q z = eqb-true v 0 q
      go false q z = absurd (false≢true (sym z))

  pub empty_any : v ≡ 0 → counts None v ≡ false
  unfolding counts
  empty_any e = simp (eq-eqb v 0 e)

  module _ (p : ℕ) where
    pub part-counts : v ≢ 0 → part_number v ≡ p → counts (Some p) v ≡ true
    unfolding counts
    part-counts h e = simp (ne_eqb v 0 h, eq-eqb (part_number v) p e)

    pub counts-part : counts (Some p) v ≡ true → (v ≢ 0) × (part_number v ≡ p)
    unfolding counts
    counts-part = go (eqb v 0) (eqb (part_number v) p) refl refl
      where
        go : (a b : Bool) → eqb v 0 ≡ a → eqb (part_number v) p ≡ b → not a && b ≡ true → (v ≢ 0) × (part_number v ≡ p)
        go true b q r z = absurd (false≢true z)
        go false true q r z = (eqb-false v 0 q, eqb-true (part_number v) p r)
        go false false q r z = absurd (false≢true z)

release_empty : release 0 ≡ 0
unfolding release major minor
release_empty = refl

-- the best cell is the cell to order, and the cell to order the best

module _ (t : List ℕ) (lowest count : ℕ) where
  abbrev end : ℕ
  end = lowest + count

  -- an empty cell has release 0.0, so it is above none
  chosen_most : (c v : ℕ) → Chosen None t lowest end c v → (j : ℕ) → InSpan lowest count j → release (get_or t j 0) ≤ release v
  chosen_most c v h j i = go (eqb (get_or t j 0) 0) refl
    where
      go : (b : Bool) → eqb (get_or t j 0) 0 ≡ b → release (get_or t j 0) ≤ release v
      go true q = let z = ap release (eqb-true (get_or t j 0) 0 q) ∙ release_empty in omega arith
      go false q = h.most j i.0 i.1 (any_counts (get_or t j 0) (eqb-false (get_or t j 0) 0 q))

  chosen_order : (c v : ℕ) → Chosen None t lowest end c v → ToOrder t lowest count c
  chosen_order c v h =
      let e = ap release h.value in
      record {
        in_span = h.inside;
        not_empty = λ z. counts_any v h.counted (h.value ∙ z);
        none_above = λ j i a. let x = above_release (get_or t j 0) (get_or t c 0) a in let y = chosen_most c v h j i in omega arith;
        none_before = λ j i l n q. let x = h.lowest j i.0 l (any_counts (get_or t j 0) n) in let y = same-release (get_or t j 0) (get_or t c 0) q in omega arith;
      }

  order_chosen : (c : ℕ) → ToOrder t lowest count c → Chosen None t lowest end c (get_or t c 0)
  order_chosen c o =
      record {
        inside = o.in_span;
        value = refl;
        counted = any_counts (get_or t c 0) o.not_empty;
        most = λ j a b z. most j (a, b);
        lowest = λ j a l z. before j a l z (dec_le (release (get_or t c 0)) (release (get_or t j 0)));
      }
    where
      most : (j : ℕ) → InSpan lowest count j → release (get_or t j 0) ≤ release (get_or t c 0)
      most j i = go (dec_le (release (get_or t j 0)) (release (get_or t c 0)))
        where
          go : Dec (release (get_or t j 0) ≤ release (get_or t c 0)) → release (get_or t j 0) ≤ release (get_or t c 0)
          go (yes p) = p
          go (no p) = absurd (o.none_above j i (release_above (get_or t j 0) (get_or t c 0) (omega arith)))

      before : (j : ℕ) → lowest ≤ j → j < c → counts None (get_or t j 0) ≡ true → Dec (release (get_or t c 0) ≤ release (get_or t j 0)) → release (get_or t j 0) < release (get_or t c 0)
      before j a l z (no p) = omega arith
      before j a l z (yes p) =
          let i : InSpan lowest count j = (a, omega (arith, o.in_span.1)) in
          let m = most j i in
          absurd (o.none_before j i l (counts_any (get_or t j 0) z) (release-same (get_or t j 0) (get_or t c 0) (omega arith)))

  none_best : AllEmpty t lowest count → BestOf None t lowest end None
  none_best h j a b = empty_any (get_or t j 0) (h j (a, b))

  best_none : BestOf None t lowest end None → AllEmpty t lowest count
  best_none h j i = any_empty (get_or t j 0) (h j i.0 i.1)

  -- the best, where the cell to order is known, and where all are empty

  best_order : (c : ℕ) → ToOrder t lowest count c → best_in None t lowest count ≡ best_cell c (get_or t c 0)
  best_order c o = one_best None t lowest end _ (best_cell c (get_or t c 0)) (best-in None t lowest count) (order_chosen c o)

  best_nothing : AllEmpty t lowest count → best_in None t lowest count ≡ None
  best_nothing h = one_best None t lowest end _ None (best-in None t lowest count) (none_best h)

  -- THE CELL TO ORDER

  pub order_says : OrderSays t lowest count (order_in t lowest count)
  unfolding order_in
  order_says = go (best_in None t lowest count) (best-in None t lowest count)
    where
      go : (b : Option Best) → BestOf None t lowest end b → OrderSays t lowest count (ok_or b NoPart)
      go (Some b) h = (chosen_order b.cell b.value h, h.value)
      go None h = (refl, best_none h)

  pub says_order : (a : Result Best Refusal) → OrderSays t lowest count a → order_in t lowest count ≡ a
  unfolding order_in
  says_order (Ok b) h = ap (λ x. ok_or x NoPart) (best_order b.cell h.0) ∙ ap (λ v. Ok (record { cell = b.cell; value = v })) (sym h.1)
  says_order (Err r) h = ap (λ x. ok_or x NoPart) (best_nothing h.1) ∙ ap Err (sym h.0)

  -- A PART IN HAND

  module _ (p : ℕ) where
    abbrev listed : Option Best
    listed = best_in (Some p) t lowest count

    chosen_lists : (j w : ℕ) → Chosen (Some p) t lowest end j w → Lists t lowest count p j
    chosen_lists j w h =
        let q = counts-part w p h.counted in
        record { in_span = h.inside; not_empty = λ z. q.0 (h.value ∙ z); lists = ap part_number (sym h.value) ∙ q.1 }

    lists-counts : (j : ℕ) → Lists t lowest count p j → counts (Some p) (get_or t j 0) ≡ true
    lists-counts j l = part-counts (get_or t j 0) p l.not_empty l.lists

    against-says : (c v : ℕ) → Chosen None t lowest end c v → (part_number v ≡ p → ⊥) → (d : Option Best) → BestOf (Some p) t lowest end d
        → HandSays t lowest count p (Ok (against v d))
    unfolding against
    against-says c v h n None k =
        (c, chosen_order c v h, (λ j l. false≢true (sym (k j l.in_span.0 l.in_span.1) ∙ lists-counts j l)))
    against-says c v h n (Some d) k = go (ltb (release d.value) (release v)) refl
      where
        go : (b : Bool) → ltb (release d.value) (release v) ≡ b → HandSays t lowest count p (Ok (pick b hand.Older hand.Equal))
        go true q =
            let x = ltb-true (release d.value) (release v) q in
            let e = ap release h.value in (
              c,
              chosen_order c v h,
              d.cell,
              chosen_lists d.cell d.value k,
              (λ i l. let m = k.most i l.in_span.0 l.in_span.1 (lists-counts i l) in release_above (get_or t c 0) (get_or t i 0) (omega arith)),
            )
        go false q =
            let x = ltb-false (release d.value) (release v) q in
            let m = chosen_most c v h d.cell k.inside in
            let e = ap release h.value in
            let f = ap release k.value in
            (c, chosen_order c v h, (λ z. n (ap part_number h.value ∙ z)), d.cell, chosen_lists d.cell d.value k, release-same (get_or t d.cell 0) (get_or t c 0) (omega arith))

    pub hand_says : HandSays t lowest count p (hand_in t lowest count p)
    unfolding hand_in
    hand_says = go (best_in None t lowest count) (best-in None t lowest count)
      where
        part : (c v : ℕ) → Chosen None t lowest end c v → (b : Bool) → eqb (part_number v) p ≡ b → HandSays t lowest count p (Ok (pick b hand.ThatOne (against v listed)))
        part c v h true q = (c, chosen_order c v h, ap part_number (sym h.value) ∙ eqb-true (part_number v) p q)
        part c v h false q = against-says c v h (eqb-false (part_number v) p q) listed (best-in (Some p) t lowest count)

        go : (b : Option Best) → BestOf None t lowest end b → HandSays t lowest count p (handed p b listed)
        go (Some b) h = part b.cell b.value h (eqb (part_number b.value) p) refl
        go None h = (refl, best_none h)

    -- with the cell to order known, and the part another
    other : (c : ℕ) → ToOrder t lowest count c → (part_number (get_or t c 0) ≡ p → ⊥) → hand_in t lowest count p ≡ Ok (against (get_or t c 0) listed)
    unfolding hand_in
    other c o n =
        ap (λ b. handed p b listed) (best_order c o)
        ∙ ap (λ b. Ok (pick b hand.ThatOne (against (get_or t c 0) listed))) (ne_eqb (part_number (get_or t c 0)) p n)

    mine_lists : (c : ℕ) → ToOrder t lowest count c → part_number (get_or t c 0) ≡ p → Lists t lowest count p c
    mine_lists c o e = record { in_span = o.in_span; not_empty = o.not_empty; lists = e }

    pub says_hand : (a : Result Hand Refusal) → HandSays t lowest count p a → hand_in t lowest count p ≡ a
    unfolding hand_in against
    says_hand (Ok hand.ThatOne) (c, o, e) =
        ap (λ b. handed p b listed) (best_order c o)
        ∙ ap (λ b. Ok (pick b hand.ThatOne (against (get_or t c 0) listed))) (eq-eqb (part_number (get_or t c 0)) p e)
    says_hand (Ok hand.Equal) (c, o, n, j, l, q) = other c o n ∙ ap Ok (go listed (best-in (Some p) t lowest count))
      where
        go : (d : Option Best) → BestOf (Some p) t lowest end d → against (get_or t c 0) d ≡ hand.Equal
        go None k = absurd (false≢true (sym (k j l.in_span.0 l.in_span.1) ∙ lists-counts j l))
        go (Some d) k =
            let m = k.most j l.in_span.0 l.in_span.1 (lists-counts j l) in
            let e = same-release (get_or t j 0) (get_or t c 0) q in
            ap (λ b. pick b hand.Older hand.Equal) (le-ltb (release d.value) (release (get_or t c 0)) (omega arith))
    says_hand (Ok hand.Older) (c, o, j, l, f) = other c o (λ e. apart (f c (mine_lists c o e))) ∙ ap Ok (go listed (best-in (Some p) t lowest count))
      where
        apart : Above (get_or t c 0) (get_or t c 0) → ⊥
        apart a = let x = above_release (get_or t c 0) (get_or t c 0) a in omega arith

        go : (d : Option Best) → BestOf (Some p) t lowest end d → against (get_or t c 0) d ≡ hand.Older
        go None k = absurd (false≢true (sym (k j l.in_span.0 l.in_span.1) ∙ lists-counts j l))
        go (Some d) k =
            let x = above_release (get_or t c 0) (get_or t d.cell 0) (f d.cell (chosen_lists d.cell d.value k)) in
            let e = ap release k.value in
            ap (λ b. pick b hand.Older hand.Equal) (lt-ltb (release d.value) (release (get_or t c 0)) (omega arith))
    says_hand (Ok hand.NotListed) (c, o, f) = other c o (λ e. f c (mine_lists c o e)) ∙ ap Ok (go listed (best-in (Some p) t lowest count))
      where
        go : (d : Option Best) → BestOf (Some p) t lowest end d → against (get_or t c 0) d ≡ hand.NotListed
        go None k = refl
        go (Some d) k = absurd (f d.cell (chosen_lists d.cell d.value k))
    says_hand (Err r) h = ap (λ b. handed p b listed) (best_nothing h.1) ∙ ap Err (sym h.0)

    -- no two answers say true things
    pub one_hand : (a b : Result Hand Refusal) → HandSays t lowest count p a → HandSays t lowest count p b → a ≡ b
    one_hand a b x y = sym (says_hand a x) ∙ says_hand b y
