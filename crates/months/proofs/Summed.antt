-- THE COUNTS ARE RIGHT: by induction on the files and their cells, with the releases met so far carried along. A cell of a release that has a place adds one
-- there; the first of a new release takes the next place, which no cell has counted yet; when all 64 are taken it is one of the others.
use Prim.Native.Nat.{ℕ, ◌+◌, ◌≤◌, ◌<◌}
use mathlib.Core.Path.{◌≡◌, refl, sym, ap, ◌∙◌, subst}
use mathlib.Core.Bool.{Bool, true, false}
use mathlib.Core.List.{List, [], ◌∷◌, ◌++◌}
use native.Mathlib.Omega.{arith}
use borrow.Author.Tests.{eqb-true, eqb-false, ltb-true, ltb-false, lt-ltb, eq-eqb, ne_eqb}
use lib.Dec.{ltb, eqb}
use lib.ListN.{length, get_or, set, length-append, length-set}
use lib.Seq.{get_or-set_same, get_or-set_other, set-get_or}
use Rattle.scope.specs.Bytes.{pick}
use Rattle.months.specs.Month.{more, place, Tally, add_at}
use Rattle.months.specs.Claim.{often, sum, Counted}
use Rattle.months.proofs.Adding.{more-one, met_stays, met_grows}
use Rattle.months.proofs.Placed.{place_range, place-holds, place-more, place_set, sum_more, sum-at, often-same, often-other}

pub record Summed (rs : List ℕ) (t : Tally) : Type 0 where
  pub counted : Counted rs t
  pub unused : (i : ℕ) → t.met ≤ i → get_or t.counts i 0 ≡ 0
  pub releases64 : length t.releases ≡ 64
  pub counts64 : length t.counts ≡ 64

module _ (rs : List ℕ) (t : Tally) (s : Summed rs t) (r : ℕ) (fits : length rs < 18446744073709551615) where
  abbrev i : ℕ
  i = place t.releases r t.met

  abbrev rs' : List ℕ
  rs' = rs ++ (r ∷ [])

  longer : length rs' ≡ length rs + 1
  longer = length-append rs (r ∷ [])

  cells-more : more t.cells ≡ t.cells + 1
  cells-more = sym (more-one t.cells (omega (arith, s.counted.cells)))

  count_more : more (get_or t.counts i 0) ≡ get_or t.counts i 0 + 1
  count_more = sym (more-one (get_or t.counts i 0) (omega (arith, s.counted.together, sum-at t.counts i)))

  others-more : more t.others ≡ t.others + 1
  others-more = sym (more-one t.others (omega (arith, s.counted.together)))

  -- the counts with one more at i
  abbrev counts' : List ℕ
  counts' = set t.counts i (get_or t.counts i 0 + 1)

  sum' : i < 64 → sum counts' + t.others ≡ length rs'
  sum' h = omega (arith, sum_more t.counts i (omega (arith, s.counts64)), s.counted.together, longer)

  -- a release that has a place

  abbrev found : Tally
  found = record { stores = t.stores; refused = t.refused; cells = t.cells + 1; met = t.met; others = t.others; releases = t.releases; counts = counts' }

  summed_found : i < t.met → Summed rs' found
  summed_found h =
      record {
        counted = record {
          cells = omega (arith, s.counted.cells, longer);
          together = sum' (omega (arith, s.counted.few));
          each = λ x p. each x p (eqb x r) refl;
          few = s.counted.few;
          no_others = s.counted.no_others;
          all_met = λ m x p. often-other x r rs (λ e. omega (arith, h, p, ap (λ y. place t.releases y t.met) e)) ∙ s.counted.all_met m x p;
        };
        unused = λ j p. get_or-set_other t.counts i j _ 0 (λ e. omega (arith, h, p, e)) ∙ s.unused j p;
        releases64 = s.releases64;
        counts64 = length-set t.counts i _ ∙ s.counts64;
      }
    where
      at : (x : ℕ) → ℕ
      at x = place t.releases x t.met

      each : (x : ℕ) → at x < t.met → (b : Bool) → eqb x r ≡ b → get_or counts' (at x) 0 ≡ often x rs'
      each x p true e =
          let q : r ≡ x = sym (eqb-true x r e) in
          subst (λ y. get_or counts' (at y) 0 ≡ often y rs') q
          (get_or-set_same t.counts i (get_or t.counts i 0 + 1) 0 (omega (arith, h, s.counts64, s.counted.few)) ∙ (ap (λ n. n + 1) (s.counted.each r h) ∙ sym (often-same r rs)))
      each x p false e =
          let n : x ≡ r → ⊥ = eqb-false x r e in
          let d : at x ≡ i → ⊥ = λ z. n (sym (place-holds t.releases x t.met p) ∙ (ap (λ k. get_or t.releases k 0) z ∙ place-holds t.releases r t.met h)) in
          get_or-set_other t.counts i (at x) _ 0 d ∙ (s.counted.each x p ∙ sym (often-other x r rs n))

  -- a new release, where there is a place

  abbrev new : Tally
  new = record { stores = t.stores; refused = t.refused; cells = t.cells + 1; met = t.met + 1; others = t.others; releases = set t.releases t.met r; counts = set t.counts t.met 1 }

  summed_new : i ≡ t.met → t.met < 64 → Summed rs' new
  summed_new z h =
      record {
        counted = record {
          cells = omega (arith, s.counted.cells, longer);
          together = omega (arith, one, s.counted.together, longer);
          each = λ x p. each x p (ltb (at x) t.met) refl (eqb x r) refl;
          few = omega arith;
          no_others = λ m. s.counted.no_others h;
          all_met = λ m x p. none x p (ltb (at x) t.met) refl (eqb x r) refl;
        };
        unused = λ j p. get_or-set_other t.counts t.met j 1 0 (λ e. omega (arith, p, e)) ∙ s.unused j (omega (arith, p));
        releases64 = length-set t.releases t.met r ∙ s.releases64;
        counts64 = length-set t.counts t.met 1 ∙ s.counts64;
      }
    where
      met : ℕ
      met = t.met

      releases : List ℕ
      releases = set t.releases met r

      at : ℕ → ℕ
      at x = place t.releases x met

      one : sum (set t.counts met 1) ≡ sum t.counts + 1
      one = subst (λ n. sum (set t.counts met (n + 1)) ≡ sum t.counts + 1) (s.unused met (omega arith)) (sum_more t.counts met (omega (arith, s.counts64)))

      holds : get_or releases met 0 ≡ r
      holds = get_or-set_same t.releases met r 0 (omega (arith, s.releases64))

      -- where a release stands now
      now : (x : ℕ) → place releases x (met + 1) ≡ pick (ltb (at x) met) (at x) (pick (eqb r x) met (met + 1))
      now x = place-more releases x met ∙ rw (place_set t.releases met r x met (omega arith), holds)

      each : (x : ℕ) → place releases x (met + 1) < met + 1 → (b : Bool) → ltb (at x) met ≡ b → (d : Bool) → eqb x r ≡ d
          → get_or (set t.counts met 1) (place releases x (met + 1)) 0 ≡ often x rs'
      each x p true e d f =
          let l : at x < met = ltb-true (at x) met e in
          let q : place releases x (met + 1) ≡ at x = now x ∙ rw e in
          let n : x ≡ r → ⊥ = λ g. omega (arith, l, z, ap (λ y. place t.releases y met) g) in
          ap (λ k. get_or (set t.counts met 1) k 0) q ∙ (get_or-set_other t.counts met (at x) 1 0 (λ g. omega (arith, l, g)) ∙ (s.counted.each x l ∙ sym (often-other x r rs n)))
      each x p false e true f =
          let g : x ≡ r = eqb-true x r f in
          let q : place releases x (met + 1) ≡ met = now x ∙ rw (e, eq-eqb r x (sym g)) in
          ap (λ k. get_or (set t.counts met 1) k 0) q
          ∙ (get_or-set_same t.counts met 1 0 (omega (arith, s.counts64))
          ∙ sym (ap (λ y. often y rs') g ∙ (often-same r rs ∙ ap (λ n. n + 1) (s.counted.all_met h r z))))
      each x p false e false f =
          let q : place releases x (met + 1) ≡ met + 1 = now x ∙ rw (e, ne_eqb r x (λ g. eqb-false x r f (sym g))) in
          absurd (omega (arith, p, q))

      none : (x : ℕ) → place releases x (met + 1) ≡ met + 1 → (b : Bool) → ltb (at x) met ≡ b → (d : Bool) → eqb x r ≡ d → often x rs' ≡ 0
      none x p true e d f =
          let l : at x < met = ltb-true (at x) met e in
          let q : place releases x (met + 1) ≡ at x = now x ∙ rw e in absurd (omega (arith, l, p, q))
      none x p false e true f =
          let q : place releases x (met + 1) ≡ met = now x ∙ rw (e, eq-eqb r x (sym (eqb-true x r f))) in absurd (omega (arith, p, q))
      none x p false e false f =
          often-other x r rs (eqb-false x r f) ∙ s.counted.all_met h x (omega (arith, ltb-false (at x) met e, place_range t.releases x met))

  -- a release without a place

  abbrev other : Tally
  other = record { stores = t.stores; refused = t.refused; cells = t.cells + 1; met = t.met; others = t.others + 1; releases = t.releases; counts = t.counts }

  summed_other : i ≡ t.met → 64 ≤ t.met → Summed rs' other
  summed_other z h =
      record {
        counted = record {
          cells = omega (arith, s.counted.cells, longer);
          together = omega (arith, s.counted.together, longer);
          each = λ x p. s.counted.each x p ∙ sym (often-other x r rs (λ e. omega (arith, p, z, ap (λ y. place t.releases y t.met) e)));
          few = s.counted.few;
          no_others = λ m. absurd (omega (arith, m, h));
          all_met = λ m x p. absurd (omega (arith, m, h));
        };
        unused = s.unused;
        releases64 = s.releases64;
        counts64 = s.counts64;
      }

  -- whichever it is
  pub summed_release : Summed rs' (add_at i r t)
  unfolding add_at
  summed_release = go (ltb i t.met) refl (ltb i 64) refl
    where
      range : i ≤ t.met
      range = place_range t.releases r t.met

      go : (b : Bool) → ltb i t.met ≡ b → (d : Bool) → ltb i 64 ≡ d → Summed rs' (add_at i r t)
      go true e d f =
          let l = ltb-true i t.met e in
          let same : set t.releases i r ≡ t.releases = ap (set t.releases i) (sym (place-holds t.releases r t.met l)) ∙ set-get_or t.releases i 0 in
          rw (lt-ltb i 64 (omega (arith, l, s.counted.few)), cells-more, count_more, ← met_stays i t.met l, same) (summed_found l)
      go false e true f =
          let l = ltb-false i t.met e in
          let z : i ≡ t.met = omega (arith, l, range) in
          let n : get_or t.counts i 0 + 1 ≡ 1 = omega (arith, s.unused i l) in
          let m : i + 1 ≡ t.met + 1 = omega (arith, z) in
          rw (f, cells-more, count_more, ← met_grows i t.met l, n, m) (subst (λ k. Summed rs' (record { stores = t.stores; refused = t.refused; cells = t.cells + 1; met = t.met + 1; others = t.others; releases = set t.releases k r; counts = set t.counts k 1 })) (sym z) (summed_new z (omega (arith, ltb-true i 64 f, z))))
      go false e false f =
          let z : i ≡ t.met = omega (arith, ltb-false i t.met e, range) in
          rw (f, cells-more, others-more) (summed_other z (omega (arith, ltb-false i 64 f, z)))
