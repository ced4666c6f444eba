-- Over a table, a file and a whole run: by induction, each step as it is proved of one cell.
use Prim.Native.Nat.{ℕ, zero, suc, ◌+◌, ◌≤◌, ◌<◌}
use mathlib.Core.Path.{◌≡◌, refl, sym, ap, ◌∙◌, subst}
use mathlib.Core.Bool.{Bool, true, false}
use mathlib.Core.List.{List, [], ◌∷◌, ◌++◌, append_assoc, append-nil}
use native.Mathlib.Omega.{arith}
use lib.Dec.{ltb, eqb}
use lib.ListN.{length, get_or, replicate, length-append}
use Rattle.scope.specs.Bytes.{pick}
use Rattle.scope.specs.Keeper.{Answer, done, refused, cell, head, clean, stored, part}
use Rattle.recovered.specs.Recovered.{started}
use Rattle.recovered.proofs.Sizes.{started_cases}
use Rattle.values.specs.Values.{values_of}
use Rattle.months.specs.Month.{more, release_of, place, Tally, untallied, add_at, add_cell, add_cells, add_store, add_started, add_medium}
use Rattle.months.specs.Claim.{releases_in, unless_refused, releases_on, is_refused, releases_met, refused_of, run_from, Right}
use Rattle.months.proofs.Adding.{more-one}
use Rattle.months.proofs.Summed.{Summed, summed_release}

-- before any file

none-at : (n i : ℕ) → get_or (replicate {A = ℕ} n 0) i 0 ≡ 0
none-at zero i = refl
none-at (suc n) zero = refl
none-at (suc n) (suc i) = none-at n i

summed_none : Summed [] untallied
unfolding untallied
summed_none =
    record {
      counted = record {
        cells = refl;
        together = refl;
        each = λ r p. absurd (omega (arith, p));
        few = omega arith;
        no_others = λ m. refl;
        all_met = λ m r p. refl;
      };
      unused = λ i p. none-at 64 i;
      releases64 = refl;
      counts64 = refl;
    }

-- a table's cells

summed_cells : (vs rs : List ℕ) (t : Tally) → Summed rs t → length (rs ++ releases_in vs) < 18446744073709551616 → Summed (rs ++ releases_in vs) (add_cells vs t)
unfolding add_cells add_cell
summed_cells [] rs t s h = subst (λ l. Summed l t) (sym (append-nil rs)) s
summed_cells (v ∷ vs) rs t s h = go (eqb v 0) h (summed_cells vs)
  where
    go : (b : Bool) → length (rs ++ pick b (releases_in vs) (release_of v ∷ releases_in vs)) < 18446744073709551616
        → ((rs : List ℕ) (t : Tally) → Summed rs t → length (rs ++ releases_in vs) < 18446744073709551616 → Summed (rs ++ releases_in vs) (add_cells vs t))
        → Summed (rs ++ pick b (releases_in vs) (release_of v ∷ releases_in vs)) (add_cells vs (pick b t (add_at (place t.releases (release_of v) t.met) (release_of v) t)))
    go true q ih = ih rs t s q
    go false q ih =
        let a = append_assoc rs (release_of v ∷ []) (releases_in vs) in
        let n : length rs < 18446744073709551615 = omega (arith, q, length-append rs (release_of v ∷ releases_in vs)) in
        subst (λ l. Summed l (add_cells vs (add_at (place t.releases (release_of v) t.met) (release_of v) t))) a
        (ih (rs ++ (release_of v ∷ [])) _ (summed_release rs t s (release_of v) n) (omega (arith, q, ap length a)))

-- cells leave the files as they are
abbrev SameFiles : Tally → Tally → Type 0
SameFiles t u = (t.stores ≡ u.stores) × (t.refused ≡ u.refused)

pick_files : (b : Bool) (x y t : Tally) → SameFiles x t → SameFiles y t → SameFiles (pick b x y) t
pick_files true x y t p q = p
pick_files false x y t p q = q

cell_files : (v : ℕ) (t : Tally) → SameFiles (add_cell v t) t
unfolding add_cell add_at
cell_files v t =
    pick_files (eqb v 0) t _ t (refl, refl) (pick_files (ltb (place t.releases (release_of v) t.met) 64) _ _ t (refl, refl) (refl, refl))

cells_files : (vs : List ℕ) (t : Tally) → SameFiles (add_cells vs t) t
unfolding add_cells
cells_files [] t = (refl, refl)
cells_files (v ∷ vs) t = let a = cells_files vs (add_cell v t) in let b = cell_files v t in (a.0 ∙ b.0, a.1 ∙ b.1)

summed_store : (rs : List ℕ) (t : Tally) (out : ℕ) → Summed rs t → Summed rs (add_store out t)
unfolding add_store
summed_store rs t out s =
    record {
      counted = record {
        cells = s.counted.cells;
        together = s.counted.together;
        each = s.counted.each;
        few = s.counted.few;
        no_others = s.counted.no_others;
        all_met = s.counted.all_met;
      };
      unused = s.unused;
      releases64 = s.releases64;
      counts64 = s.counts64;
    }

-- a file

record Whole (files lost : ℕ) (rs : List ℕ) (t : Tally) : Type 0 where
  pub stores : t.stores ≡ files
  pub out : t.refused ≡ lost
  pub summed : Summed rs t

module _ (m : List ℕ) (n f : ℕ) (rs : List ℕ) (t : Tally) (w : Whole n f rs t) (hn : n < 18446744073709551615) (hf : f ≤ n) (hr : length (rs ++ releases_on m) < 18446744073709551616) where
  stores-more : more t.stores ≡ n + 1
  stores-more = sym (more-one t.stores (omega (arith, w.stores))) ∙ ap (λ x. x + 1) w.stores

  out_more : more t.refused ≡ f + 1
  out_more = sym (more-one t.refused (omega (arith, w.out))) ∙ ap (λ x. x + 1) w.out

  abbrev Step : Answer → Type 0
  Step a = length (rs ++ unless_refused a (releases_in (values_of m))) < 18446744073709551616
      → Whole (n + 1) (is_refused a + f) (rs ++ unless_refused a (releases_in (values_of m))) (add_started a (values_of m) t)

  whole_medium : Whole (n + 1) (is_refused (started m).answer + f) (rs ++ releases_on m) (add_medium m t)
  unfolding add_medium add_store
  whole_medium =
      started_cases m (λ a x y. Step a)
      (λ q.
      let c = cells_files (values_of m) (add_store t.refused t) in
      record {
        stores = c.0 ∙ stores-more;
        out = c.1 ∙ (w.out ∙ omega arith);
        summed = summed_cells (values_of m) rs (add_store t.refused t) (summed_store rs t t.refused w.summed) q;
      })
      (λ x a b q.
      record {
        stores = stores-more;
        out = out_more ∙ omega arith;
        summed = subst (λ l. Summed l (add_store (more t.refused) t)) (sym (append-nil rs)) (summed_store rs t (more t.refused) w.summed);
      }) hr

-- a run

one-refused : (a : Answer) → is_refused a ≤ 1
one-refused (done v) = omega arith
one-refused (refused n) = omega arith
one-refused (cell c) = omega arith
one-refused head = omega arith
one-refused clean = omega arith
one-refused stored = omega arith
one-refused (part b) = omega arith

whole_run : (ms : List (List ℕ)) (n f : ℕ) (rs : List ℕ) (t : Tally) → Whole n f rs t → n + length ms < 18446744073709551616 → f ≤ n
    → length (rs ++ releases_met ms) < 18446744073709551616 → Whole (n + length ms) (f + refused_of ms) (rs ++ releases_met ms) (run_from ms t)
whole_run [] n f rs t w hn hf hr =
    subst (λ l. Whole (n + 0) (f + 0) l t) (sym (append-nil rs)) (record { stores = w.stores ∙ omega arith; out = w.out ∙ omega arith; summed = w.summed })
whole_run (m ∷ ms) n f rs t w hn hf hr =
    let a = append_assoc rs (releases_on m) (releases_met ms) in
    let l = length-append (rs ++ releases_on m) (releases_met ms) in
    let one = one-refused (started m).answer in
    let next = whole_medium m n f rs t w (omega arith) hf (omega (arith, hr, ap length a, l)) in
    let end = whole_run ms (n + 1) (is_refused (started m).answer + f) (rs ++ releases_on m) (add_medium m t) next (omega arith) (omega arith) (omega (arith, hr, ap length a)) in
    record { stores = end.stores ∙ omega arith; out = end.out ∙ omega arith; summed = subst (λ x. Summed x (run_from ms (add_medium m t))) a end.summed }

-- THE CLAIM
pub right : Right
unfolding untallied
right ms hn hr =
    let w = whole_run ms 0 0 [] untallied (record { stores = refl; out = refl; summed = summed_none }) (omega (arith, hn)) (omega arith) hr in
    record { stores = w.stores ∙ omega arith; refused = w.out ∙ omega arith; counted = w.summed.counted }
