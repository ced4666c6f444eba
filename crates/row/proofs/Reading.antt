-- Reading a row, one law for each way that it ends: the tests that led there, put into the definitions of the entry and of the reason.
-- The three zero bytes after the kind are judged with it, and the four after the cell with that, as one number each.
use Prim.Native.Nat.{ℕ, ◌+◌, ◌*◌, ◌≤◌, ◌<◌}
use mathlib.Core.Path.{◌≡◌, refl, sym, ap, ◌∙◌}
use mathlib.Core.Bool.{Bool, true, false, ◌&&◌, ◌||◌, not, false≢true}
use mathlib.Core.Logic.{◌≢◌}
use mathlib.Core.List.{List, [], ◌∷◌}
use mathlib.Core.Option.{Option, none, some}
use native.Mathlib.Omega.{arith}
use borrow.Author.Tests.{eqb-true, eqb-false, lt-ltb, le-ltb, le-leb, lt-leb, eq-eqb, ne_eqb}
use lib.Dec.{eqb, ltb, leb}
use lib.ListN.{length, get_or}
use Rattle.scope.specs.Bytes.{pick, number_at}
use Rattle.scope.specs.Row.{Entry, update, commit_entry, abort_entry, entry_of, read_row, Reason, too_short, other_number, unknown_kind, filler_not_zero, cell_out_of_range, cell_left, old_left, new_left, row_tests, first_reason, wrong_entry}
use Rattle.row.specs.Row.{bare_end, left_over, unread_as, wrong_of}
use Rattle.number.proofs.Numbers.{number-suc, eight}

-- an end, by cell, old and new

module _ (w : Entry) (c a b : ℕ) where
  pub end-cell : (c ≡ 0 → ⊥) → (none ≡ bare_end w c a b) × (some cell_left ≡ left_over c a b)
  unfolding bare_end left_over
  end-cell h = (simp (ne_eqb c 0 h), simp (ne_eqb c 0 h))

  module _ (h : c ≡ 0) where
    pub end-old : (a ≡ 0 → ⊥) → (none ≡ bare_end w c a b) × (some old_left ≡ left_over c a b)
    unfolding bare_end left_over
    end-old i = (simp (eq-eqb c 0 h, ne_eqb a 0 i), simp (eq-eqb c 0 h, ne_eqb a 0 i))

    pub end-new : a ≡ 0 → (b ≡ 0 → ⊥) → (none ≡ bare_end w c a b) × (some new_left ≡ left_over c a b)
    unfolding bare_end left_over
    end-new i j = (simp (eq-eqb c 0 h, eq-eqb a 0 i, ne_eqb b 0 j), simp (eq-eqb c 0 h, eq-eqb a 0 i, ne_eqb b 0 j))

    pub end_bare : a ≡ 0 → b ≡ 0 → (some w ≡ bare_end w c a b) × (none ≡ left_over c a b)
    unfolding bare_end left_over
    end_bare i j = (simp (eq-eqb c 0 h, eq-eqb a 0 i, eq-eqb b 0 j), simp (eq-eqb c 0 h, eq-eqb a 0 i, eq-eqb b 0 j))

-- a row that does not read for its kind, its filler or its cell's range

module _ (r : List ℕ) (h : 32 ≤ length r) where
  no_bytes : (at : ℕ) → number_at 0 at r ≡ 0
  unfolding number_at Rattle.scope.specs.Bytes.number_of
  no_bytes at = refl

  -- the kind byte, and the three bytes after it
  kind_byte : get_or r 4 0 ≡ number_at 1 4 r
  kind_byte = omega (arith, number-suc r 0 4 5 (omega arith) (omega arith), no_bytes 5)

  kind-bytes : number_at 4 4 r ≡ number_at 1 4 r + 256 * number_at 3 5 r
  kind-bytes = omega (arith, number-suc r 3 4 5 (omega arith) (omega arith), kind_byte)

  -- the cell and the four bytes after it
  cell-bytes : number_at 8 8 r ≡ number_at 4 8 r + 4294967296 * number_at 4 12 r
  cell-bytes = sym (eight r 8 _ _ (omega arith) refl refl)

  module _ (kind : ℕ) (e : kind ≡ get_or r 4 0) where
    pub unread_none : kind ≡ 0 → unknown_kind ≡ unread_as r
    unfolding unread_as
    unread_none i =
        let k : number_at 1 4 r ≡ 0 = omega (arith, kind_byte) in
        simp (ne_eqb (number_at 1 4 r) 1 (omega arith), ne_eqb (number_at 1 4 r) 2 (omega arith), ne_eqb (number_at 1 4 r) 3 (omega arith))

    pub unread_beyond : 3 < kind → unknown_kind ≡ unread_as r
    unfolding unread_as
    unread_beyond i =
        let k : 3 < number_at 1 4 r = omega (arith, kind_byte) in
        simp (ne_eqb (number_at 1 4 r) 1 (omega arith), ne_eqb (number_at 1 4 r) 2 (omega arith), ne_eqb (number_at 1 4 r) 3 (omega arith))

    known : (k : ℕ) → 0 < k → k ≤ 3 → (eqb k 1 || (eqb k 2 || eqb k 3)) ≡ true
    known k p q = go (eqb k 1) refl (eqb k 2) refl
      where
        go : (s : Bool) → eqb k 1 ≡ s → (t : Bool) → eqb k 2 ≡ t → (s || (t || eqb k 3)) ≡ true
        go true u t v = refl
        go false u true v = refl
        go false u false v = eq-eqb k 3 (omega (arith, eqb-false k 1 u, eqb-false k 2 v))

    module _ (p : 0 < kind) (q : kind ≤ 3) where
      a-kind : (eqb (number_at 1 4 r) 1 || (eqb (number_at 1 4 r) 2 || eqb (number_at 1 4 r) 3)) ≡ true
      a-kind = known (number_at 1 4 r) (omega (arith, kind_byte)) (omega (arith, kind_byte))

      pub unread_filler : (word : ℕ) → word ≡ number_at 4 4 r → (word ≡ kind → ⊥) → filler_not_zero ≡ unread_as r
      unfolding unread_as
      unread_filler word w i = simp (a-kind, ne_eqb (number_at 3 5 r) 0 (λ z. i (omega (arith, kind-bytes, kind_byte))))

      module _ (word : ℕ) (w : word ≡ number_at 4 4 r) (i : word ≡ kind) where
        no_filler : number_at 3 5 r ≡ 0
        no_filler = omega (arith, kind-bytes, kind_byte)

        pub unread_zeros : (number_at 4 12 r ≡ 0 → ⊥) → filler_not_zero ≡ unread_as r
        unfolding unread_as
        unread_zeros j = simp (a-kind, eq-eqb (number_at 3 5 r) 0 no_filler, ne_eqb (number_at 4 12 r) 0 j)

        pub unread_cell : number_at 4 12 r ≡ 0 → cell_out_of_range ≡ unread_as r
        unfolding unread_as
        unread_cell j = simp (a-kind, eq-eqb (number_at 3 5 r) 0 no_filler, eq-eqb (number_at 4 12 r) 0 j)

-- kinds

either : (t : Bool) → none ≡ pick {A = Option Entry} t none none
either true = refl
either false = refl

neither : (t : Bool) (e : Option Entry) → pick (t && false) e none ≡ none
neither true e = refl
neither false e = refl

module _ (r : List ℕ) (kind c a b : ℕ) where
  pub of_update : kind ≡ 1 → (some (update c a b) ≡ entry_of kind c a b) × (none ≡ wrong_of r kind c a b)
  unfolding entry_of wrong_of
  of_update h = (simp (eq-eqb kind 1 h), simp (eq-eqb kind 1 h))

  module _ (o : Option Entry) (x : Option Reason) (q : x ≡ left_over c a b) where
    pub of_commit : o ≡ bare_end commit_entry c a b → kind ≡ 2 → (o ≡ entry_of kind c a b) × (x ≡ wrong_of r kind c a b)
    unfolding entry_of wrong_of bare_end
    of_commit p h =
        (p ∙ simp (ne_eqb kind 1 (omega arith), eq-eqb kind 2 h), q ∙ simp (ne_eqb kind 1 (omega arith), eq-eqb kind 2 h))

    pub of_abort : o ≡ bare_end abort_entry c a b → kind ≡ 3 → (o ≡ entry_of kind c a b) × (x ≡ wrong_of r kind c a b)
    unfolding entry_of wrong_of bare_end
    of_abort p h = (
      p ∙ simp (ne_eqb kind 1 (omega arith), ne_eqb kind 2 (omega arith), eq-eqb kind 3 h),
      q ∙ simp (ne_eqb kind 1 (omega arith), ne_eqb kind 2 (omega arith), eq-eqb kind 3 h),
    )

  module _ (h : kind ≡ 1 → ⊥) (i : kind ≡ 2 → ⊥) (j : kind ≡ 3 → ⊥) where
    pub no_kind : none ≡ entry_of kind c a b
    unfolding entry_of
    no_kind = simp (ne_eqb kind 1 h, ne_eqb kind 2 i, ne_eqb kind 3 j) (either (eqb c 0 && (eqb a 0 && eqb b 0)))

    pub of_unknown : (x : Reason) → x ≡ unread_as r → (none ≡ entry_of kind c a b) × (some x ≡ wrong_of r kind c a b)
    unfolding wrong_of
    of_unknown x e = (no_kind, ap some e ∙ simp (ne_eqb kind 1 h, ne_eqb kind 2 i, ne_eqb kind 3 j))

-- a row

-- the tests of kind, filler and cell, where the first two or the last of them hold
unreadable : (k f o : Bool) (rest : Option Reason) → (f ≡ true → o ≡ true)
    → some (pick (not k) unknown_kind (pick (not f) filler_not_zero cell_out_of_range)) ≡ pick (not k) (some unknown_kind) (pick (not f) (some filler_not_zero) (pick o (some cell_out_of_range) rest))
unreadable false f o rest h = refl
unreadable true false o rest h = refl
unreadable true true o rest h = simp (h refl)

unfilled : (k : Bool) → some (pick (not k) unknown_kind filler_not_zero) ≡ pick (not k) (some unknown_kind) (some filler_not_zero)
unfilled true = refl
unfilled false = refl

-- an update leaves nothing over, an end what it leaves, and another kind is unknown
plain : (k e x y z : Bool) (v : Reason) → (k ≡ true → e ≡ false)
    → pick k none (pick e (first_reason ((not x, cell_left) ∷ (not y, old_left) ∷ (not z, new_left) ∷ [])) (some (pick (not (k || e)) unknown_kind v)))
    ≡ pick (not (k || e)) (some unknown_kind) (first_reason ((e && not x, cell_left) ∷ (e && not y, old_left) ∷ (e && not z, new_left) ∷ []))
plain true true x y z v h = absurd (false≢true (sym (h refl)))
plain true false x y z v h = refl
plain false true x y z v h = refl
plain false false x y z v h = refl

one-kind : (k : ℕ) → eqb k 1 ≡ true → (eqb k 2 || eqb k 3) ≡ false
one-kind k e = let i = eqb-true k 1 e in simp (ne_eqb k 2 (omega arith), ne_eqb k 3 (omega arith))

both_zero : (s t : Bool) → (s && t) ≡ true → t ≡ true
both_zero true t h = h
both_zero false t h = absurd (false≢true h)

module _ (cells n : ℕ) (r : List ℕ) where
  pub row_short : length r < 32 → (none ≡ read_row cells n r) × (some too_short ≡ wrong_entry cells n r)
  unfolding read_row wrong_entry row_tests
  row_short h = (simp (lt-leb 32 (length r) h), simp (lt-ltb (length r) 32 h))

  module _ (h : 32 ≤ length r) where
    pub row_zero : n ≡ 0 → (none ≡ read_row cells n r) × (some other_number ≡ wrong_entry cells n r)
    unfolding read_row wrong_entry row_tests
    row_zero i = (simp (le-leb 32 (length r) h, le-ltb 0 n (omega arith)), simp (le-ltb (length r) 32 h, eq-eqb n 0 i))

    module _ (p : 0 < n) where
      pub row_other : (number_at 4 0 r ≡ n → ⊥) → (none ≡ read_row cells n r) × (some other_number ≡ wrong_entry cells n r)
      unfolding read_row wrong_entry row_tests
      row_other i = (
        simp (le-leb 32 (length r) h, lt-ltb 0 n p, ne_eqb (number_at 4 0 r) n i),
        simp (le-ltb (length r) 32 h, ne_eqb n 0 (omega arith), ne_eqb (number_at 4 0 r) n i),
      )

      module _ (q : number_at 4 0 r ≡ n) where
        -- the three bytes are judged with the kind: where one isn't zero, the four are no kind
        row_joined : (t : Bool) → eqb (number_at 3 5 r) 0 ≡ t
            → read_row cells n r ≡ pick (ltb (number_at 4 8 r) cells && eqb (number_at 4 12 r) 0) (entry_of (number_at 4 4 r) (number_at 4 8 r) (number_at 8 16 r) (number_at 8 24 r)) none
        unfolding read_row
        row_joined true z =
            let e : number_at 4 4 r ≡ number_at 1 4 r = omega (arith, kind-bytes r h, eqb-true (number_at 3 5 r) 0 z) in
            simp (le-leb 32 (length r) h, lt-ltb 0 n p, eq-eqb (number_at 4 0 r) n q, z, e)
        row_joined false z =
            let w = eqb-false (number_at 3 5 r) 0 z in
            simp (
              le-leb 32 (length r) h,
              lt-ltb 0 n p,
              eq-eqb (number_at 4 0 r) n q,
              z,
              ← no_kind r (number_at 4 4 r) (number_at 4 8 r) (number_at 8 16 r) (number_at 8 24 r) (omega (arith, kind-bytes r h)) (omega (arith, kind-bytes r h)) (omega (arith, kind-bytes r h)),
            ) (either (ltb (number_at 4 8 r) cells && eqb (number_at 4 12 r) 0))

        -- so are the four bytes with the cell: where one isn't zero, the eight are no cell
        module _ (few : cells < 4294967296) where
          none_outside : cells ≤ number_at 8 8 r → none ≡ read_row cells n r
          none_outside o = sym (row_joined _ refl ∙ go (eqb (number_at 4 12 r) 0) refl)
            where
              go : (t : Bool) → eqb (number_at 4 12 r) 0 ≡ t
                  → pick {A = Option Entry} (ltb (number_at 4 8 r) cells && eqb (number_at 4 12 r) 0) (entry_of (number_at 4 4 r) (number_at 4 8 r) (number_at 8 16 r) (number_at 8 24 r)) none ≡ none
              go true z = simp (le-ltb (number_at 4 8 r) cells (omega (arith, cell-bytes r h, eqb-true (number_at 4 12 r) 0 z)))
              go false z = simp z (neither (ltb (number_at 4 8 r) cells) _)

          why_outside : cells ≤ number_at 8 8 r → some (unread_as r) ≡ wrong_entry cells n r
          unfolding wrong_entry row_tests unread_as
          why_outside o =
              simp (le-ltb (length r) 32 h, ne_eqb n 0 (omega arith), eq-eqb (number_at 4 0 r) n q)
              (unreadable (eqb (number_at 1 4 r) 1 || (eqb (number_at 1 4 r) 2 || eqb (number_at 1 4 r) 3)) (eqb (number_at 3 5 r) 0 && eqb (number_at 4 12 r) 0) (leb cells (number_at 4 8 r)) _
              (λ z. le-leb cells (number_at 4 8 r) (omega (arith, cell-bytes r h, eqb-true (number_at 4 12 r) 0 (both_zero (eqb (number_at 3 5 r) 0) _ z)))))

          pub row_outside : (x : Reason) → x ≡ unread_as r → cells ≤ number_at 8 8 r → (none ≡ read_row cells n r) × (some x ≡ wrong_entry cells n r)
          row_outside x e o = (none_outside o, ap some e ∙ why_outside o)

          module _ (o : number_at 8 8 r < cells) where
            no_zeros : number_at 4 12 r ≡ 0
            no_zeros = omega (arith, cell-bytes r h)

            same-cell : number_at 8 8 r ≡ number_at 4 8 r
            same-cell = omega (arith, cell-bytes r h)

            entry_read : entry_of (number_at 4 4 r) (number_at 8 8 r) (number_at 8 16 r) (number_at 8 24 r) ≡ read_row cells n r
            entry_read =
                sym (row_joined _ refl ∙ simp (lt-ltb (number_at 4 8 r) cells (omega (arith, same-cell)), eq-eqb (number_at 4 12 r) 0 no_zeros, same-cell))

            -- what is left of the tests
            rest : Bool → Option Reason
            rest e =
                first_reason
                ((e && not (eqb (number_at 4 8 r) 0), cell_left) ∷ (e && not (eqb (number_at 8 16 r) 0), old_left) ∷ (e && not (eqb (number_at 8 24 r) 0), new_left) ∷ [])

            why-rest : wrong_entry cells n r
                ≡ pick (not (eqb (number_at 1 4 r) 1 || (eqb (number_at 1 4 r) 2 || eqb (number_at 1 4 r) 3))) (some unknown_kind)
                (pick (not (eqb (number_at 3 5 r) 0 && true)) (some filler_not_zero) (rest (eqb (number_at 1 4 r) 2 || eqb (number_at 1 4 r) 3)))
            unfolding wrong_entry row_tests rest
            why-rest = simp (
              le-ltb (length r) 32 h,
              ne_eqb n 0 (omega arith),
              eq-eqb (number_at 4 0 r) n q,
              eq-eqb (number_at 4 12 r) 0 no_zeros,
              lt-leb cells (number_at 4 8 r) (omega (arith, same-cell)),
            ) refl

            -- where one of the three bytes after the kind isn't zero, the four are no kind
            why_filled : number_at 3 5 r ≢ 0 → wrong_of r (number_at 4 4 r) (number_at 8 8 r) (number_at 8 16 r) (number_at 8 24 r) ≡ wrong_entry cells n r
            unfolding wrong_of unread_as
            why_filled z =
                simp (
                  ne_eqb (number_at 4 4 r) 1 (omega (arith, kind-bytes r h)),
                  ne_eqb (number_at 4 4 r) 2 (omega (arith, kind-bytes r h)),
                  ne_eqb (number_at 4 4 r) 3 (omega (arith, kind-bytes r h)),
                  why-rest,
                  ne_eqb (number_at 3 5 r) 0 z,
                ) (unfilled (eqb (number_at 1 4 r) 1 || (eqb (number_at 1 4 r) 2 || eqb (number_at 1 4 r) 3)))

            why_plain : number_at 3 5 r ≡ 0 → wrong_of r (number_at 4 4 r) (number_at 8 8 r) (number_at 8 16 r) (number_at 8 24 r) ≡ wrong_entry cells n r
            unfolding wrong_of unread_as left_over rest
            why_plain z =
                let e : number_at 4 4 r ≡ number_at 1 4 r = omega (arith, kind-bytes r h) in
                simp (e, same-cell, why-rest, eq-eqb (number_at 3 5 r) 0 z)
                (plain (eqb (number_at 1 4 r) 1) (eqb (number_at 1 4 r) 2 || eqb (number_at 1 4 r) 3) (eqb (number_at 4 8 r) 0) (eqb (number_at 8 16 r) 0) (eqb (number_at 8 24 r) 0) _ (one-kind (number_at 1 4 r)))

            why_read : wrong_of r (number_at 4 4 r) (number_at 8 8 r) (number_at 8 16 r) (number_at 8 24 r) ≡ wrong_entry cells n r
            why_read = go (eqb (number_at 3 5 r) 0) refl
              where
                go : (t : Bool) → eqb (number_at 3 5 r) 0 ≡ t → wrong_of r (number_at 4 4 r) (number_at 8 8 r) (number_at 8 16 r) (number_at 8 24 r) ≡ wrong_entry cells n r
                go true z = why_plain (eqb-true (number_at 3 5 r) 0 z)
                go false z = why_filled (eqb-false (number_at 3 5 r) 0 z)

            pub row_read : (x : Option Entry) (y : Option Reason)
                → (x ≡ entry_of (number_at 4 4 r) (number_at 8 8 r) (number_at 8 16 r) (number_at 8 24 r))
                × (y ≡ wrong_of r (number_at 4 4 r) (number_at 8 8 r) (number_at 8 16 r) (number_at 8 24 r))
                → (x ≡ read_row cells n r) × (y ≡ wrong_entry cells n r)
            row_read x y e = (e.0 ∙ entry_read, e.1 ∙ why_read)

-- what is wrong with a row's fields
pub of_fields : (r : List ℕ) (k c a b k' c' a' b' : ℕ) (e : Option Entry) (x : Option Reason) → (e ≡ entry_of k c a b) × (x ≡ wrong_of r k c a b)
    → k ≡ k' → c ≡ c' → a ≡ a' → b ≡ b' → (e ≡ entry_of k' c' a' b') × (x ≡ wrong_of r k' c' a' b')
of_fields r k c a b k' c' a' b' e x f p q s t =
    (f.0 ∙ (λ i. entry_of (p i) (q i) (s i) (t i)), f.1 ∙ (λ i. wrong_of r (p i) (q i) (s i) (t i)))
