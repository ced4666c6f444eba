-- A cell is counted: where a release stands among the places, what a write there and a new place leave; one case law for each way that a cell goes; and
-- what remains of a table gives what all gives.
use Prim.Native.Nat.{ℕ, suc, ◌+◌, ◌-◌, ◌≤◌, ◌<◌, ◌^◌}
use mathlib.Core.Path.{◌≡◌, refl, sym, ap, ◌∙◌}
use mathlib.Core.Bool.{Bool, true, false}
use mathlib.Core.List.{List, [], ◌∷◌, ◌++◌, append_assoc}
use native.Mathlib.Omega.{arith}
use native.Mathlib.Numerals.{add-one}
use borrow.Author.Tests.{lt-ltb, le-ltb, eqb-true, ltb-true, ltb-false, eq-eqb, ne_eqb}
use lib.Dec.{ltb, eqb}
use lib.ListN.{length, get_or, set, take, drop, replicate, length-append, length-set, drop_of_length-le}
use lib.Seq.{drop-cons, set-append_seam, get_or-append_seam}
use Rattle.std.specs.Prelude.{Some, None, min, not, cond, map}
use Rattle.std.specs.List.{position, position_or_len}
use Rattle.std.proofs.Math.Seq.{take-set-lt}
use Rattle.std.proofs.lemmas.List.{length-take, set-append_left, get_or_append_left, get_or-map, map-set, map-append, length-map}
use Rattle.std.proofs.lemmas.List.Quantifiers.{position-Some}
use Rattle.std.proofs.lemmas.Option.{none-some}
use Rattle.std.proofs.lemmas.List.Sums.{prefix_len-le-length}
use Rattle.scope.specs.Bytes.{pick}
use Rattle.std.specs.Prelude.{Result, Ok, Err}
use Rattle.values.specs.declared.Unread.{Unread}
use Rattle.values.specs.Values.{Values, answer_of}
use Rattle.months.specs.declared.Met.{Met}
use Rattle.months.specs.declared.Month.{Month}
use Rattle.months.specs.declared.releases.Releases.{Releases}
use Rattle.months.specs.Releases.{in_use}
use Rattle.months.specs.Month.{more, release_of, place_from, place, places, releases_of, counts_of, Tally, tally, met_after, add_at, add_cell, add_cells, add_store, add_medium}

pub more-one : (x : ℕ) → x < 18446744073709551615 → x + 1 ≡ more x
unfolding more
more-one x p = simp (lt-ltb x 18446744073709551615 p)

-- `saturating_add` of one, in 64 bits
pub more_saturating : (x r : ℕ) → r ≡ min (x + 1) (2 ^ 64 - 1) → x < 2 ^ 64 → r ≡ more x
unfolding more
more_saturating x r e h = go (ltb x 18446744073709551615) refl
  where
    go : (b : Bool) → ltb x 18446744073709551615 ≡ b → r ≡ pick b (x + 1) x
    go true q = let p = ltb-true x 18446744073709551615 q in omega arith
    go false q = let p = ltb-false x 18446744073709551615 q in omega arith

pub met_stays : (i met : ℕ) → i < met → met ≡ met_after i met
unfolding met_after
met_stays i met p = simp (lt-ltb i met p)

pub met_grows : (i met : ℕ) → met ≤ i → i + 1 ≡ met_after i met
unfolding met_after
met_grows i met p = simp (le-ltb i met p)

-- a place that is in use, written
pub set_in_use : (n : ℕ) (xs : List Met) (i : ℕ) (x : Met) → i < length (take n xs) → take n (set xs i x) ≡ set (take n xs) i x
set_in_use n xs i x h = take-set-lt n xs i x (omega (arith, h, length-take n xs))

-- the place of a release

abbrev pub IsOf : ℕ → Met → Bool
IsOf r c = eqb c.release r

place_after : (ys : List ℕ) (xs : List Met) (zs : List ℕ) (r : ℕ)
    → place_from (ys ++ (map (λ c. c.release) xs ++ zs)) r (length xs) (length ys) ≡ length ys + position_or_len (IsOf r) xs
unfolding place_from
place_after ys [] zs r = omega arith
place_after ys (x ∷ xs) zs r =
    ap (λ y. pick (eqb y r) (length ys) (place_from all r (length xs) (length ys + 1))) (get_or-append_seam ys x.release (map (λ c. c.release) xs ++ zs) 0)
    ∙ go (eqb x.release r) (place_after (ys ++ x.release ∷ []) xs zs r)
  where
    all : List ℕ
    all = ys ++ (x.release ∷ (map (λ c. c.release) xs ++ zs))

    go : (b : Bool) → place_from ((ys ++ x.release ∷ []) ++ (map (λ c. c.release) xs ++ zs)) r (length xs) (length (ys ++ x.release ∷ [])) ≡ length (ys ++ x.release ∷ []) + position_or_len (IsOf r) xs
        → pick b (length ys) (place_from all r (length xs) (length ys + 1)) ≡ length ys + cond (not b) (1 + position_or_len (IsOf r) xs) 0
    go true e = omega arith
    go false e =
        let a = append_assoc ys (x.release ∷ []) (map (λ c. c.release) xs ++ zs) in
        let l : length (ys ++ x.release ∷ []) ≡ length ys + 1 = length-append ys (x.release ∷ []) in
        (λ i. place_from (sym a i) r (length xs) (sym l i)) ∙ e ∙ omega (arith, l)

module _ (xs : List Met) (r : ℕ) where
  place_position : place (releases_of xs) r (length xs) ≡ position_or_len (IsOf r) xs
  unfolding place places
  place_position = place_after [] xs (replicate (64 - length (map (λ c. c.release) xs)) 0) r ∙ omega arith

  pub place-some : (i : ℕ) → position (IsOf r) xs ≡ Some i → i ≡ place (releases_of xs) r (length xs)
  place-some i e = go (ltb (position_or_len (IsOf r) xs) (length xs)) e
    where
      go : (b : Bool) → cond b (Some (position_or_len (IsOf r) xs)) None ≡ Some i → i ≡ place (releases_of xs) r (length xs)
      go true z = let q : position_or_len (IsOf r) xs ≡ i = cc in sym (place_position ∙ q)
      go false z = absurd (none-some i z)

  pub place_none : position (IsOf r) xs ≡ None → length xs ≡ place (releases_of xs) r (length xs)
  place_none e = go (ltb (position_or_len (IsOf r) xs) (length xs)) refl e
    where
      go : (b : Bool) → ltb (position_or_len (IsOf r) xs) (length xs) ≡ b → cond b (Some (position_or_len (IsOf r) xs)) None ≡ None → length xs ≡ place (releases_of xs) r (length xs)
      go true q z = absurd (none-some (position_or_len (IsOf r) xs) (sym z))
      go false q z =
          let p = ltb-false (position_or_len (IsOf r) xs) (length xs) q in
          omega (arith, p, prefix_len-le-length (λ c. not (IsOf r c)) xs, place_position)

-- a write at a place, and a new place

abbrev pub blank : Met
blank = record { release = 0; count = 0 }

-- a release with one more cell
abbrev pub again : Met → Met
again c = record { release = c.release; count = more c.count }

module _ (f : Met → ℕ) (xs : List Met) where
  -- the numbers that are in use
  abbrev ys : List ℕ
  ys = map f xs

  same : length ys ≡ length xs
  same = length-map xs f

  places_set : (i : ℕ) (c : Met) → i < length xs → places (map f (set xs i c)) ≡ set (places ys) i (f c)
  unfolding places
  places_set i c h =
      ap (λ zs. zs ++ replicate (64 - length zs) 0) (map-set f xs i c)
      ∙ ap (λ n. set ys i (f c) ++ replicate (64 - n) 0) (length-set ys i (f c))
      ∙ sym (set-append_left ys (replicate (64 - length ys) 0) i (f c) (omega (arith, h, same)))

  pub places_read : (i : ℕ) → i < length xs → get_or (places ys) i 0 ≡ f (get_or xs i blank)
  unfolding places
  places_read i h = get_or_append_left ys (replicate (64 - length ys) 0) 0 i (omega (arith, h, same)) ∙ get_or-map f xs i blank 0 h

  module _ (room : length xs < 64) where
    one : 64 - length ys ≡ suc (63 - length ys)
    one = omega (arith, room, same)

    places_push : (c : Met) → places (map f (xs ++ c ∷ [])) ≡ set (places ys) (length xs) (f c)
    unfolding places
    places_push c =
        let l : 64 - length (ys ++ f c ∷ []) ≡ 63 - length ys = omega (arith, length-append ys (f c ∷ [])) in
        ap (λ zs. zs ++ replicate (64 - length zs) 0) (map-append f xs (c ∷ []))
        ∙ ap (λ k. (ys ++ f c ∷ []) ++ replicate k 0) l
        ∙ append_assoc ys (f c ∷ []) (replicate (63 - length ys) 0)
        ∙ sym (set-append_seam ys 0 (replicate (63 - length ys) 0) (f c))
        ∙ (λ j. set (ys ++ replicate (sym one j) 0) (same j) (f c))

    places_blank : get_or (places ys) (length xs) 0 ≡ 0
    unfolding places
    places_blank = (λ j. get_or (ys ++ replicate (one j) 0) (sym same j) 0) ∙ get_or-append_seam ys 0 (replicate (63 - length ys) 0) 0

-- one cell

module _ (v : ℕ) (m : Month) where
  pub cell_empty : v ≡ 0 → tally m ≡ add_cell v (tally m)
  unfolding add_cell
  cell_empty e = simp (eq-eqb v 0 e)

  module _ (full : v ≡ 0 → ⊥) (r : ℕ) (qr : r ≡ release_of v) (cells : ℕ) (qc : cells ≡ more m.cells) where
    abbrev met : List Met
    met = in_use m.met

    abbrev after : Releases → ℕ → Month
    after now others = record { stores = m.stores; refused = m.refused; cells = cells; met = now; others = others }

    -- with so many met, and these at their places
    abbrev left : ℕ → List ℕ → List ℕ → Tally
    left n releases counts = record { stores = m.stores; refused = m.refused; cells = more m.cells; met = n; others = m.others; releases = releases; counts = counts }

    at_place : (i : ℕ) → i ≡ place (releases_of met) r (length met) → i < 64
        → left (met_after i (length met)) (set (releases_of met) i r) (set (counts_of met) i (more (get_or (counts_of met) i 0))) ≡ add_cell v (tally m)
    unfolding add_cell add_at tally
    at_place i q h = rw (ne_eqb v 0 full, ← qr, ← q, lt-ltb i 64 h)

    pub cell-counted : (i : ℕ) → position (IsOf r) met ≡ Some i → length met ≤ 64 → (now : Releases) → in_use now ≡ set met i (again (get_or met i blank)) → tally (after now m.others) ≡ add_cell v (tally m)
    unfolding tally
    cell-counted i e few now s =
        let items = in_use now in
        let c = again (get_or met i blank) in
        let p = position-Some (IsOf r) met i blank e in
        let releases : releases_of items ≡ set (releases_of met) i r =
        ap releases_of s ∙ places_set (λ x. x.release) met i c p.0 ∙ ap (set (releases_of met) i) (eqb-true (get_or met i blank).release r p.1) in
        let counts : counts_of items ≡ set (counts_of met) i (more (get_or (counts_of met) i 0)) =
        ap counts_of s ∙ places_set (λ x. x.count) met i c p.0 ∙ ap (set (counts_of met) i) (ap more (sym (places_read (λ x. x.count) met i p.0))) in
        let long : length items ≡ met_after i (length met) = ap length s ∙ length-set met i c ∙ met_stays i (length met) p.0 in
        (λ j. record { stores = m.stores; refused = m.refused; cells = qc j; met = long j; others = m.others; releases = releases j; counts = counts j })
        ∙ at_place i (place-some met r i e) (omega (arith, few, p.0))

    pub cell-new : position (IsOf r) met ≡ None → length met < 64 → (now : Releases) → in_use now ≡ met ++ record { release = r; count = 1 } ∷ []
        → tally (after now m.others) ≡ add_cell v (tally m)
    unfolding tally more
    cell-new e room now s =
        let items = in_use now in
        let c : Met = record { release = r; count = 1 } in
        let n = length met in
        let releases : releases_of items ≡ set (releases_of met) n r = ap releases_of s ∙ places_push (λ x. x.release) met room c in
        let counts : counts_of items ≡ set (counts_of met) n (more (get_or (counts_of met) n 0)) =
        ap counts_of s ∙ places_push (λ x. x.count) met room c ∙ ap (λ x. set (counts_of met) n (more x)) (sym (places_blank (λ x. x.count) met room)) in
        let long : length items ≡ met_after n n = ap length s ∙ length-append met (c ∷ []) ∙ met_grows n n (omega arith) in
        (λ j. record { stores = m.stores; refused = m.refused; cells = qc j; met = long j; others = m.others; releases = releases j; counts = counts j })
        ∙ at_place n (place_none met r e) room

    pub cell_other : position (IsOf r) met ≡ None → 64 ≤ length met → (others : ℕ) → others ≡ more m.others → tally (after m.met others) ≡ add_cell v (tally m)
    unfolding add_cell add_at tally
    cell_other e h others qo = let q = place_none met r e in rw (ne_eqb v 0 full, ← qr, ← q, le-ltb (length met) 64 h, qc, qo)

-- the cells of a table

module _ (vs : List ℕ) (t : Tally) (i : ℕ) (now : Tally) (e : add_cells vs t ≡ add_cells (drop i vs) now) where
  pub cells_again : i < length vs → (next : Tally) → next ≡ add_cell (get_or vs i 0) now → add_cells vs t ≡ add_cells (drop (i + 1) vs) next
  unfolding add_cells
  cells_again h next q = e ∙ rw (drop-cons vs i 0 h, q, add-one)

  pub cells-end : length vs ≤ i → now ≡ add_cells vs t
  unfolding add_cells
  cells-end h = sym (e ∙ rw (drop_of_length-le vs {i = i} h))

-- a file

module _ (m : List ℕ) (month : Month) (r : Result Unit Unread) (current : List ℕ) (values : Values m r current) (stores : ℕ) (qs : stores ≡ more month.stores) where
  pub medium-refused : (x : Unread) → r ≡ Err x → (out : ℕ) → out ≡ more month.refused
      → tally (record { stores = stores; refused = out; cells = month.cells; met = month.met; others = month.others }) ≡ add_medium m (tally month)
  unfolding add_medium add_store tally
  medium-refused x z out qo = let a = ap answer_of (sym z) ∙ values.answer in rw (← a, qs, qo)

  -- the month with one more store
  abbrev taken : Month
  taken = record { stores = stores; refused = month.refused; cells = month.cells; met = month.met; others = month.others }

  pub medium-counted : r ≡ Ok tt → (t : Tally) → t ≡ add_cells current (tally taken) → t ≡ add_medium m (tally month)
  unfolding add_medium add_store tally
  medium-counted z t e = let a = ap answer_of (sym z) ∙ values.answer in e ∙ rw (← a, values.done z, qs)
