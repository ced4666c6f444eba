-- Where a release stands: its place is in range and holds it, and one more place changes no place before it. And sums and counts with one more.
use Prim.Native.Nat.{ℕ, zero, suc, ◌+◌, ◌≤◌, ◌<◌}
use mathlib.Core.Path.{◌≡◌, refl, sym, ap, ◌∙◌}
use mathlib.Core.Bool.{Bool, true, false}
use mathlib.Core.List.{List, [], ◌∷◌, ◌++◌}
use native.Mathlib.Omega.{arith}
use borrow.Author.Tests.{eqb-true, eqb-false, lt-ltb, le-ltb, eq-eqb, ne_eqb}
use lib.Dec.{ltb, eqb}
use lib.ListN.{length, get_or, set}
use lib.Seq.{get_or-set_other}
use Rattle.scope.specs.Bytes.{pick}
use Rattle.months.specs.Month.{place_from, place}
use Rattle.months.specs.Claim.{often, sum}

module _ (rs : List ℕ) (r : ℕ) where
  from_range : (left i : ℕ) → (i ≤ place_from rs r left i) × (place_from rs r left i ≤ i + left)
  unfolding place_from
  from_range zero i = (omega arith, omega arith)
  from_range (suc left) i = go (eqb (get_or rs i 0) r) (from_range left (i + 1))
    where
      go : (b : Bool) → (i + 1 ≤ place_from rs r left (i + 1)) × (place_from rs r left (i + 1) ≤ i + 1 + left)
          → (i ≤ pick b i (place_from rs r left (i + 1))) × (pick b i (place_from rs r left (i + 1)) ≤ i + suc left)
      go true h = (omega arith, omega arith)
      go false h = (omega (arith, h.0), omega (arith, h.1))

  pub place_range : (met : ℕ) → place rs r met ≤ met
  unfolding place
  place_range met = omega (arith, (from_range met 0).1)

  from_holds : (left i : ℕ) → place_from rs r left i < i + left → get_or rs (place_from rs r left i) 0 ≡ r
  unfolding place_from
  from_holds zero i h = absurd (omega arith)
  from_holds (suc left) i h = go (eqb (get_or rs i 0) r) refl h (from_holds left (i + 1))
    where
      go : (b : Bool) → eqb (get_or rs i 0) r ≡ b → pick b i (place_from rs r left (i + 1)) < i + suc left
          → (place_from rs r left (i + 1) < i + 1 + left → get_or rs (place_from rs r left (i + 1)) 0 ≡ r) → get_or rs (pick b i (place_from rs r left (i + 1))) 0 ≡ r
      go true e q ih = eqb-true (get_or rs i 0) r e
      go false e q ih = ih (omega (arith, q))

  pub place-holds : (met : ℕ) → place rs r met < met → get_or rs (place rs r met) 0 ≡ r
  unfolding place
  place-holds met h = from_holds met 0 (omega (arith, h))

  from_finds : (left i k : ℕ) → i ≤ k → k < i + left → get_or rs k 0 ≡ r → place_from rs r left i < i + left
  unfolding place_from
  from_finds zero i k p q e = absurd (omega (arith, p, q))
  from_finds (suc left) i k p q e = go (eqb (get_or rs i 0) r) refl (from_finds left (i + 1) k)
    where
      go : (b : Bool) → eqb (get_or rs i 0) r ≡ b → (i + 1 ≤ k → k < i + 1 + left → get_or rs k 0 ≡ r → place_from rs r left (i + 1) < i + 1 + left)
          → pick b i (place_from rs r left (i + 1)) < i + suc left
      go true z ih = omega arith
      go false z ih =
          let n : i ≡ k → ⊥ = λ y. eqb-false (get_or rs i 0) r z (ap (λ x. get_or rs x 0) y ∙ e) in
          omega (arith, ih (omega (arith, p, n)) (omega (arith, q)) e)

  -- a release that stands at one of the places has its place among them
  pub place_finds : (met k : ℕ) → k < met → get_or rs k 0 ≡ r → place rs r met < met
  unfolding place
  place_finds met k q e = omega (arith, from_finds met 0 k (omega arith) (omega (arith, q)) e)

  from_first : (left i j : ℕ) → i ≤ j → j < i + left → ((k : ℕ) → i ≤ k → k < j → get_or rs k 0 ≡ r → ⊥) → get_or rs j 0 ≡ r → j ≡ place_from rs r left i
  unfolding place_from
  from_first zero i j p q h e = absurd (omega (arith, p, q))
  from_first (suc left) i j p q h e = go (eqb (get_or rs i 0) r) refl (eqb i j) refl (λ n. from_first left (i + 1) j (omega (arith, p, n)) (omega (arith, q)) (λ k a l. h k (omega (arith, a)) l) e)
    where
      go : (b : Bool) → eqb (get_or rs i 0) r ≡ b → (d : Bool) → eqb i j ≡ d → ((i ≡ j → ⊥) → j ≡ place_from rs r left (i + 1)) → j ≡ pick b i (place_from rs r left (i + 1))
      go true z true y ih = sym (eqb-true i j y)
      go true z false y ih = absurd (h i (omega arith) (omega (arith, p, eqb-false i j y)) (eqb-true (get_or rs i 0) r z))
      go false z d y ih = ih (λ n. eqb-false (get_or rs i 0) r z (ap (λ x. get_or rs x 0) n ∙ e))

  -- .. the first of these
  pub place_first : (met j : ℕ) → j < met → ((k : ℕ) → k < j → get_or rs k 0 ≡ r → ⊥) → get_or rs j 0 ≡ r → j ≡ place rs r met
  unfolding place
  place_first met j q h e = from_first met 0 j (omega arith) (omega (arith, q)) (λ k a l. h k l) e

  -- one more place
  abbrev Next : ℕ → ℕ → ℕ
  Next at met = pick (ltb at met) at (pick (eqb (get_or rs met 0) r) met (met + 1))

  from_more : (left i : ℕ) → place_from rs r (suc left) i ≡ Next (place_from rs r left i) (i + left)
  unfolding place_from
  from_more zero i = let z : i + 0 ≡ i = omega arith in rw (z, le-ltb i i (omega arith))
  from_more (suc left) i = go (eqb (get_or rs i 0) r) (from_more left (i + 1))
    where
      go : (b : Bool) → place_from rs r (suc left) (i + 1) ≡ Next (place_from rs r left (i + 1)) (i + 1 + left)
          → pick b i (place_from rs r (suc left) (i + 1)) ≡ Next (pick b i (place_from rs r left (i + 1))) (i + suc left)
      go true ih = rw (lt-ltb i (i + suc left) (omega arith))
      go false ih = let z : i + 1 + left ≡ i + suc left = omega arith in rw z at ih

  pub place-more : (met : ℕ) → place rs r (met + 1) ≡ Next (place rs r met) met
  unfolding place
  place-more met =
      let z : met + 1 ≡ suc met = omega arith in
      let y : 0 + met ≡ met = omega arith in
      ap (λ n. place_from rs r n 0) z ∙ from_more met 0 ∙ ap (Next (place_from rs r met 0)) y

-- a release put past the places that are looked at
module _ (rs : List ℕ) (k x r : ℕ) where
  from_set : (left i : ℕ) → i + left ≤ k → place_from (set rs k x) r left i ≡ place_from rs r left i
  unfolding place_from
  from_set zero i h = refl
  from_set (suc left) i h = rw (get_or-set_other rs k i x 0 (λ e. omega arith), from_set left (i + 1) (omega arith))

  pub place_set : (met : ℕ) → met ≤ k → place (set rs k x) r met ≡ place rs r met
  unfolding place
  place_set met h = from_set met 0 (omega arith)

-- one more in a sum, and in a count
pub sum_more : (xs : List ℕ) (i : ℕ) → i < length xs → sum (set xs i (get_or xs i 0 + 1)) ≡ sum xs + 1
sum_more [] i h = absurd (omega arith)
sum_more (x ∷ xs) zero h = omega arith
sum_more (x ∷ xs) (suc i) h = omega (arith, sum_more xs i (omega arith))

pub sum-at : (xs : List ℕ) (i : ℕ) → get_or xs i 0 ≤ sum xs
sum-at [] i = omega arith
sum-at (x ∷ xs) zero = omega arith
sum-at (x ∷ xs) (suc i) = omega (arith, sum-at xs i)

often-append : (r : ℕ) (xs ys : List ℕ) → often r (xs ++ ys) ≡ often r xs + often r ys
often-append r [] ys = omega arith
often-append r (x ∷ xs) ys = omega (arith, often-append r xs ys)

pub often-same : (r : ℕ) (xs : List ℕ) → often r (xs ++ (r ∷ [])) ≡ often r xs + 1
often-same r xs = let e : eqb r r ≡ true = eq-eqb r r refl in rw (often-append r xs (r ∷ []), e)

pub often-other : (r x : ℕ) (xs : List ℕ) → (r ≡ x → ⊥) → often r (xs ++ (x ∷ [])) ≡ often r xs
often-other r x xs h = let e : eqb r x ≡ false = ne_eqb r x h in rw (often-append r xs (x ∷ []), e) (omega arith)
