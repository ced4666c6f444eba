-- The best of a span is a cell that counts, none that counts has a greater release, and none before it an equal one: kept from cell to cell. At most
-- one cell is so.
use Prim.Native.Nat.{ℕ, zero, suc, ◌+◌, ◌≤◌, ◌<◌}
use mathlib.Core.Path.{◌≡◌, refl, sym, ap, subst, ◌∙◌}
use mathlib.Core.Bool.{Bool, true, false, false≢true}
use mathlib.Core.Logic.{◌⊎◌, inl, inr}
use mathlib.Core.List.{List}
use native.Mathlib.Decide.{dec_le}
use native.Mathlib.Omega.{arith}
use borrow.Author.Tests.{ltb-true, ltb-false}
use lib.Dec.{ltb}
use lib.ListN.{get_or}
use Rattle.scope.specs.Bytes.{pick}
use Rattle.std.specs.Prelude.{Option, Some, None}
use Rattle.counter.specs.declared.Best.{Best}
use Rattle.counter.specs.Counter.{release, counts, best_cell, better, best_with_cell, best_from, best_in}

pub record Chosen (s : Option ℕ) (t : List ℕ) (from end c v : ℕ) : Type 0 where
  pub inside : (from ≤ c) × (c < end)
  pub value : v ≡ get_or t c 0
  pub counted : counts s v ≡ true
  pub most : (j : ℕ) → from ≤ j → j < end → counts s (get_or t j 0) ≡ true → release (get_or t j 0) ≤ release v
  pub lowest : (j : ℕ) → from ≤ j → j < c → counts s (get_or t j 0) ≡ true → release (get_or t j 0) < release v

abbrev pub BestOf : Option ℕ → List ℕ → ℕ → ℕ → Option Best → Type 0
BestOf s t from end (Some b) = Chosen s t from end b.cell b.value
BestOf s t from end None = (j : ℕ) → from ≤ j → j < end → counts s (get_or t j 0) ≡ false

-- below the end that is one more: below the end, or the last
below : (j c : ℕ) → j < c + 1 → (j < c) ⊎ (j ≡ c)
below j c h = go (dec_le c j)
  where
    go : Dec (c ≤ j) → (j < c) ⊎ (j ≡ c)
    go (yes p) = inr (omega arith)
    go (no p) = inl (omega arith)

module _ (s : Option ℕ) (t : List ℕ) (from c : ℕ) (inside : from ≤ c) where
  last : (P : ℕ → Type 0) → ((j : ℕ) → from ≤ j → j < c → P j) → P c → (j : ℕ) → from ≤ j → j < c + 1 → P j
  last P before here j a b = go (below j c b)
    where
      go : (j < c) ⊎ (j ≡ c) → P j
      go (inl h) = before j a h
      go (inr e) = subst P (sym e) here

  passed : (b : Option Best) → counts s (get_or t c 0) ≡ false → BestOf s t from c b → BestOf s t from (c + 1) b
  passed None e h = last (λ j. counts s (get_or t j 0) ≡ false) h e
  passed (Some b) e h =
      record {
        inside = (h.inside.0, omega (arith, h.inside.1));
        value = h.value;
        counted = h.counted;
        most = last (λ j. counts s (get_or t j 0) ≡ true → release (get_or t j 0) ≤ release b.value) h.most (λ z. absurd (false≢true (sym e ∙ z)));
        lowest = h.lowest;
      }

  taken : (b : Option Best) → counts s (get_or t c 0) ≡ true → BestOf s t from c b → BestOf s t from (c + 1) (better c (get_or t c 0) b)
  unfolding better
  taken None e h =
      record {
        inside = (inside, omega arith);
        value = refl;
        counted = e;
        most = last (λ j. counts s (get_or t j 0) ≡ true → release (get_or t j 0) ≤ release (get_or t c 0)) (λ j a l z. absurd (false≢true (sym (h j a l) ∙ z))) (λ z. omega arith);
        lowest = λ j a l z. absurd (false≢true (sym (h j a l) ∙ z));
      }
  taken (Some b) e h = go (ltb (release b.value) (release (get_or t c 0))) refl
    where
      go : (k : Bool) → ltb (release b.value) (release (get_or t c 0)) ≡ k → BestOf s t from (c + 1) (pick k (best_cell c (get_or t c 0)) (Some b))
      go true q =
          let g = ltb-true (release b.value) (release (get_or t c 0)) q in
          record {
            inside = (inside, omega arith);
            value = refl;
            counted = e;
            most = last (λ j. counts s (get_or t j 0) ≡ true → release (get_or t j 0) ≤ release (get_or t c 0)) (λ j a l z. let m = h.most j a l z in omega arith) (λ z. omega arith);
            lowest = λ j a l z. let m = h.most j a l z in omega arith;
          }
      go false q =
          let g = ltb-false (release b.value) (release (get_or t c 0)) q in
          record {
            inside = (h.inside.0, omega (arith, h.inside.1));
            value = h.value;
            counted = h.counted;
            most = last (λ j. counts s (get_or t j 0) ≡ true → release (get_or t j 0) ≤ release b.value) h.most (λ z. g);
            lowest = h.lowest;
          }

  with_cell : (b : Option Best) → BestOf s t from c b → BestOf s t from (c + 1) (best_with_cell s c (get_or t c 0) b)
  unfolding best_with_cell
  with_cell b h = go (counts s (get_or t c 0)) refl
    where
      go : (k : Bool) → counts s (get_or t c 0) ≡ k → BestOf s t from (c + 1) (pick k (better c (get_or t c 0) b) b)
      go true e = taken b e h
      go false e = passed b e h

module _ (s : Option ℕ) (t : List ℕ) (from : ℕ) where
  best-from : (count c : ℕ) (b : Option Best) → from ≤ c → BestOf s t from c b → BestOf s t from (c + count) (best_from s t c count b)
  unfolding best_from
  best-from zero c b h p = let z : c ≡ c + 0 = omega arith in subst (λ e. BestOf s t from e b) z p
  best-from (suc count) c b h p =
      let z : c + 1 + count ≡ c + suc count = omega arith in
      subst (λ e. BestOf s t from e (best_from s t (c + 1) count (best_with_cell s c (get_or t c 0) b))) z
      (best-from count (c + 1) (best_with_cell s c (get_or t c 0) b) (omega arith) (with_cell s t from c h b p))

  pub best-in : (count : ℕ) → BestOf s t from (from + count) (best_in s t from count)
  unfolding best_in
  best-in count = best-from count from None (omega arith) (λ j a l. absurd (omega arith))

-- no two

module _ (s : Option ℕ) (t : List ℕ) (from end : ℕ) where
  before : (c v d w : ℕ) → Chosen s t from end c v → Chosen s t from end d w → c < d → ⊥
  before c v d w p q h =
      let x = q.lowest c p.inside.0 h (ap (counts s) (sym p.value) ∙ p.counted) in
      let y = p.most d q.inside.0 q.inside.1 (ap (counts s) (sym q.value) ∙ q.counted) in
      let e = ap release p.value in
      let f = ap release q.value in
      omega arith

  same-cell : (c v d w : ℕ) → Chosen s t from end c v → Chosen s t from end d w → c ≡ d
  same-cell c v d w p q = go (dec_le c d) (dec_le d c)
    where
      go : Dec (c ≤ d) → Dec (d ≤ c) → c ≡ d
      go (yes a) (yes b) = omega arith
      go (yes a) (no b) = absurd (before c v d w p q (omega arith))
      go (no a) b = absurd (before d w c v q p (omega arith))

  none_chosen : (c v : ℕ) → Chosen s t from end c v → ((j : ℕ) → from ≤ j → j < end → counts s (get_or t j 0) ≡ false) → ⊥
  none_chosen c v p q = false≢true (sym (q c p.inside.0 p.inside.1) ∙ ap (counts s) (sym p.value) ∙ p.counted)

  pub one_best : (b d : Option Best) → BestOf s t from end b → BestOf s t from end d → b ≡ d
  one_best (Some b) (Some d) p q =
      let e = same-cell b.cell b.value d.cell d.value p q in
      λ i. best_cell (e i) ((p.value ∙ ap (λ x. get_or t x 0) e ∙ sym q.value) i)
  one_best (Some b) None p q = absurd (none_chosen b.cell b.value p q)
  one_best None (Some d) p q = absurd (none_chosen d.cell d.value q p)
  one_best None None p q = refl
