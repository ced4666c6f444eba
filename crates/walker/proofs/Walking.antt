-- A walk from h meets the stored journal, wherever recovery reads one: entry by entry, a row counts for both or for neither.
use Prim.Native.Nat.{ℕ, zero, suc, ◌+◌, ◌-◌, ◌<◌, ◌≤◌}
use mathlib.Core.Path.{◌≡◌, refl, sym, ap, ◌∙◌}
use mathlib.Core.Bool.{Bool, true, false, ◌&&◌}
use mathlib.Core.List.{List, [], ◌∷◌}
use mathlib.Core.Option.{Option, none, some}
use native.Mathlib.Omega.{arith}
use borrow.Author.Tests.{ltb-true, leb-true, leb-false, lt-ltb, le-ltb, le-leb, lt-leb, eq-eqb, ne_eqb}
use lib.Dec.{ltb, leb, eqb}
use Rattle.scope.specs.Bytes.{pick, max_no, number_at}
use Rattle.scope.specs.Row.{Entry, read_row, Reason, Fault, faultless, fault, wrong_entry}
use Rattle.scope.specs.Keeper.{is_head_ok}
use Rattle.scope.specs.Recovery.{rows_of, firstly, any_holds, entries_from, at_most, journal}
use Rattle.journal.specs.Entries.{entry_in}
use Rattle.state.proofs.Facts.{and_left, and_right}
use Rattle.walker.specs.Walk.{Met, holds, malformed, end, counts, as_read, next_in, next_on, wrong_in, wrong_on, followed, walked_from, walk}

-- which entries may count

module _ (slots h n : ℕ) where
  pub counts-dropped : n < h → false ≡ counts slots h n
  unfolding counts
  counts-dropped p = simp (lt-leb h n p)

  module _ (p : h ≤ n) where
    pub counts-last : 4294967295 ≤ n → false ≡ counts slots h n
    unfolding counts max_no
    counts-last q = simp (le-leb h n p, le-ltb n 4294967295 q)

    pub counts-rest : n < 4294967295 → ltb (n - h) slots ≡ counts slots h n
    unfolding counts max_no
    counts-rest q = simp (le-leb h n p, lt-ltb n 4294967295 q)

ruleset tests-true = (and_left, and_right, leb-true, ltb-true)

pub counts-below : (slots h n : ℕ) → counts slots h n ≡ true → (h ≤ n) × (n < 4294967295) × (n - h < slots)
unfolding counts max_no
counts-below slots h n e = (search tests-true, search tests-true, search tests-true)

-- the row after entry n's

module _ (m : List ℕ) (slots cells n : ℕ) where
  pub next-other : (x : ℕ) → x ≡ number_at 4 0 (rows_of slots m (n + 1)) → (x ≡ n + 1 → ⊥)
      → (end ≡ next_in (rows_of slots m) cells n) × (faultless ≡ wrong_in (rows_of slots m) cells n)
  unfolding next_in wrong_in
  next-other x e q = (simp (← e, ne_eqb x (n + 1) q), simp (← e, ne_eqb x (n + 1) q))

  module _ (x : ℕ) (e : x ≡ number_at 4 0 (rows_of slots m (n + 1))) (q : x ≡ n + 1) where
    pub next-malformed : (y : Reason) → none ≡ entry_in m 32 slots cells (n + 1) → some y ≡ wrong_entry cells (n + 1) (rows_of slots m (n + 1))
        → (malformed ≡ next_in (rows_of slots m) cells n) × (fault y (n + 1) ≡ wrong_in (rows_of slots m) cells n)
    unfolding next_in wrong_in entry_in
    next-malformed y r w = (simp (← e, eq-eqb x (n + 1) q, ← r), simp (← e, eq-eqb x (n + 1) q, ← w))

    pub next-holds : (v : Entry) → some v ≡ entry_in m 32 slots cells (n + 1) → none ≡ wrong_entry cells (n + 1) (rows_of slots m (n + 1))
        → (holds (n + 1) v ≡ next_in (rows_of slots m) cells n) × (faultless ≡ wrong_in (rows_of slots m) cells n)
    unfolding next_in wrong_in entry_in
    next-holds v r w = (simp (← e, eq-eqb x (n + 1) q, ← r), simp (← e, eq-eqb x (n + 1) q, ← w))

-- what stands after an entry, by the head

module _ (m : List ℕ) (n : ℕ) (t : Bool) (e : t ≡ is_head_ok m) where
  pub no_head : t ≡ false → (end ≡ next_on m n) × (faultless ≡ wrong_on m n)
  unfolding next_on wrong_on
  no_head p = (simp (← e, p), simp (← e, p))

  module _ (p : t ≡ true) (slots h : ℕ) (qs : slots ≡ number_at 4 4 m) (qh : h ≡ number_at 4 8 m) (u : Bool) (f : u ≡ counts slots h n) where
    pub no_count : u ≡ false → (end ≡ next_on m n) × (faultless ≡ wrong_on m n)
    unfolding next_on wrong_on
    no_count q = (simp (← e, p, ← qs, ← qh, ← f, q), simp (← e, p, ← qs, ← qh, ← f, q))

    module _ (q : u ≡ true) (cells : ℕ) (qc : cells ≡ number_at 4 0 m) where
      pub row_counts : (x : Met) → x ≡ next_in (rows_of slots m) cells n → x ≡ next_on m n
      unfolding next_on
      row_counts x r = r ∙ simp (← e, p, ← qs, ← qh, ← f, q, ← qc)

      pub wrong_counts : (x : Fault) → x ≡ wrong_in (rows_of slots m) cells n → x ≡ wrong_on m n
      unfolding wrong_on
      wrong_counts x r = r ∙ simp (← e, p, ← qs, ← qh, ← f, q, ← qc)

-- the entries of a walk

most : (slots h : ℕ) → (at_most slots h ≤ slots) × (at_most slots h ≤ 4294967295 - h)
unfolding at_most max_no
most slots h = go (leb slots (4294967295 - h)) refl
  where
    go : (t : Bool) → leb slots (4294967295 - h) ≡ t → (pick t slots (4294967295 - h) ≤ slots) × (pick t slots (4294967295 - h) ≤ 4294967295 - h)
    go true e = (omega arith, leb-true slots (4294967295 - h) e)
    go false e = (omega (arith, leb-false slots (4294967295 - h) e), omega arith)

pub least : (slots h k : ℕ) → k < slots → k < 4294967295 - h → k < at_most slots h
unfolding at_most max_no
least slots h k p q = go (leb slots (4294967295 - h))
  where
    go : (t : Bool) → k < pick t slots (4294967295 - h)
    go true = p
    go false = q

-- an entry that is met has the next number, and counts
pub met-counts : (m : List ℕ) (n k : ℕ) (e : Entry) → next_on m n ≡ holds k e
    → (k ≡ n + 1) × (number_at 4 8 m ≤ n) × (n - number_at 4 8 m < at_most (number_at 4 4 m) (number_at 4 8 m))
unfolding next_on next_in
met-counts m n k e q =
    go (is_head_ok m && counts (number_at 4 4 m) (number_at 4 8 m) n) (eqb (number_at 4 0 (rows_of (number_at 4 4 m) m (n + 1))) (n + 1)) (read_row (number_at 4 0 m) (n + 1) (rows_of (number_at 4 4 m) m (n + 1))) refl q
  where
    go : (t b : Bool) (o : Option Entry) → is_head_ok m && counts (number_at 4 4 m) (number_at 4 8 m) n ≡ t → pick t (pick b (as_read (n + 1) o) end) end ≡ holds k e
        → (k ≡ n + 1) × (number_at 4 8 m ≤ n) × (n - number_at 4 8 m < at_most (number_at 4 4 m) (number_at 4 8 m))
    go false b o z g = let w : ◌≡◌ {A = ℕ} 0 1 = cc in absurd (omega arith)
    go true false o z g = let w : ◌≡◌ {A = ℕ} 0 1 = cc in absurd (omega arith)
    go true true none z g = let w : ◌≡◌ {A = ℕ} 0 1 = cc in absurd (omega arith)
    go true true (some x) z g =
        let w = counts-below (number_at 4 4 m) (number_at 4 8 m) n (and_right (is_head_ok m) (counts (number_at 4 4 m) (number_at 4 8 m) n) z) in
        (cc, w.0, omega (arith, w.0, w.1, w.2, least (number_at 4 4 m) (number_at 4 8 m) (n - number_at 4 8 m) w.2 (omega (arith, w.0, w.1))))

-- a walk meets nothing on a medium whose head is out of rule
pub walk_none : (m : List ℕ) → is_head_ok m ≡ false → walk m ≡ []
unfolding walk walked_from
walk_none m p = go (at_most (number_at 4 4 m) (number_at 4 8 m))
  where
    go : (left : ℕ) → walked_from m left (number_at 4 8 m) ≡ []
    go zero = refl
    go (suc left) = ap (λ x. followed x (walked_from m left (number_at 4 8 m + 1))) (sym (no_head m (number_at 4 8 m) false (sym p) refl).0)

module _ (m : List ℕ) (ok : is_head_ok m ≡ true) where
  abbrev N : ℕ
  N = number_at 4 0 m

  abbrev C : ℕ
  C = number_at 4 4 m

  abbrev h : ℕ
  h = number_at 4 8 m

  pub next-counts : (n : ℕ) → h ≤ n → n - h < at_most C h → next_on m n ≡ next_in (rows_of C m) N n
  next-counts n p q =
      let b = most C h in
      let u : true ≡ counts C h n = sym (lt-ltb (n - h) C (omega arith)) ∙ counts-rest C h n p (omega arith) in
      sym (row_counts m n true (sym ok) refl C h refl refl true u refl N refl (next_in (rows_of C m) N n) refl)

  walk_from : (left n : ℕ) (es : List Entry) → h ≤ n → left + (n - h) ≡ at_most C h → entries_from (rows_of C m) N left n ≡ some es → walked_from m left n ≡ es
  unfolding entries_from walked_from next_in
  walk_from zero n es p q e = cc
  walk_from (suc left) n es p q e =
      ap (λ x. followed x (walked_from m left (n + 1))) (next-counts n p (omega arith))
      ∙ go (eqb (number_at 4 0 (rows_of C m (n + 1))) (n + 1)) (any_holds (rows_of C m) left (n + 1)) (read_row N (n + 1) (rows_of C m (n + 1))) (entries_from (rows_of C m) N left (n + 1)) refl e
      (λ xs. walk_from left (n + 1) xs (omega arith) (omega arith))
    where
      go : (b c : Bool) (o : Option Entry) (r : Option (List Entry)) → entries_from (rows_of C m) N left (n + 1) ≡ r → pick b (firstly o r) (pick c none (some [])) ≡ some es
          → ((xs : List Entry) → entries_from (rows_of C m) N left (n + 1) ≡ some xs → walked_from m left (n + 1) ≡ xs)
          → followed (pick b (as_read (n + 1) o) end) (walked_from m left (n + 1)) ≡ es
      go false true o r z g ih = let w : ◌≡◌ {A = ℕ} 0 1 = cc in absurd (omega arith)
      go false false o r z g ih = cc
      go true c none r z g ih = let w : ◌≡◌ {A = ℕ} 0 1 = cc in absurd (omega arith)
      go true c (some x) none z g ih = let w : ◌≡◌ {A = ℕ} 0 1 = cc in absurd (omega arith)
      go true c (some x) (some xs) z g ih = let w : x ∷ xs ≡ es = cc in ap (λ l. x ∷ l) (ih xs z) ∙ w

  -- A WALK FROM h MEETS THE STORED JOURNAL
  pub walk-journal : (es : List Entry) → journal N C h m ≡ some es → walk m ≡ es
  unfolding journal walk
  walk-journal es e = walk_from (at_most C h) h es (omega arith) (omega arith) e
