-- What is wrong with a row: a reason is given exactly when its test is the first that holds, and none exactly when the row reads; by the tests'
-- Booleans. And rows on either side of each pair of reasons, by computation.
use Prim.Native.Nat.{ℕ}
use mathlib.Core.Path.{◌≡◌, refl, sym, ap, ◌∙◌}
use mathlib.Core.Bool.{Bool, true, false, ◌&&◌, ◌||◌, not, false≢true}
use mathlib.Core.Logic.{◌⊎◌, inl, inr}
use mathlib.Core.List.{List, [], ◌∷◌, ◌++◌, map}
use mathlib.Core.Option.{Option, none, some}
use native.Mathlib.Omega.{arith}
use borrow.Author.Tests.{eqb-true, leb-true, leb-false, ltb-true, ltb-false, le-ltb, lt-ltb, le-leb, lt-leb, eq-eqb, ne_eqb}
use lib.Dec.{ltb, leb, eqb}
use lib.ListN.{length, take}
use Rattle.scope.specs.Bytes.{pick, number_of, number_at, put}
use Rattle.scope.specs.Row.{Entry, update, commit_entry, abort_entry, entry_of, read_row, is_update, is_entry, Reason, too_short, other_number, unknown_kind, filler_not_zero, cell_out_of_range, cell_left, old_left, new_left, not_update, hole, row_tests, first_reason, wrong_entry, wrong_update}

-- no test holds
abbrev pub NothingWrong : List (Bool × Reason) → Type 0
NothingWrong [] = Unit {0}
NothingWrong (t ∷ ts) = (t.0 ≡ false) × NothingWrong ts

-- a test with that reason holds, and none before it
abbrev pub FirstWrong : Reason → List (Bool × Reason) → Type 0
FirstWrong x [] = ⊥
FirstWrong x (t ∷ ts) = ((t.0 ≡ true) × (t.1 ≡ x)) ⊎ ((t.0 ≡ false) × FirstWrong x ts)

pub some≢none {ℓ} : {A : Type ℓ} {x : Reason} → some x ≡ none → A
some≢none p = let z : ◌≡◌ {A = ℕ} 0 1 = cc in absurd (omega arith)

pub first_reason-none : (ts : List (Bool × Reason)) → first_reason ts ≡ none → NothingWrong ts
first_reason-none [] e = tt
first_reason-none (t ∷ ts) e = go t.0 refl e (first_reason-none ts)
  where
    go : (b : Bool) → t.0 ≡ b → pick b (some t.1) (first_reason ts) ≡ none → (first_reason ts ≡ none → NothingWrong ts)
        → (t.0 ≡ false) × NothingWrong ts
    go true q z ih = some≢none z
    go false q z ih = (q, ih z)

pub none-first_reason : (ts : List (Bool × Reason)) → NothingWrong ts → first_reason ts ≡ none
none-first_reason [] w = refl
none-first_reason (t ∷ ts) w = ap (λ b. pick b (some t.1) (first_reason ts)) w.0 ∙ none-first_reason ts w.1

pub first_reason-first : (ts : List (Bool × Reason)) (x : Reason) → first_reason ts ≡ some x → FirstWrong x ts
first_reason-first [] x e = some≢none (sym e)
first_reason-first (t ∷ ts) x e = go t.0 refl e (first_reason-first ts x)
  where
    go : (b : Bool) → t.0 ≡ b → pick b (some t.1) (first_reason ts) ≡ some x → (first_reason ts ≡ some x → FirstWrong x ts)
        → ((t.0 ≡ true) × (t.1 ≡ x)) ⊎ ((t.0 ≡ false) × FirstWrong x ts)
    go true q z ih = inl (q, cc)
    go false q z ih = inr (q, ih z)

pub first-first_reason : (ts : List (Bool × Reason)) (x : Reason) → FirstWrong x ts → first_reason ts ≡ some x
first-first_reason [] x f = absurd f
first-first_reason (t ∷ ts) x (inl q) = ap (λ b. pick b (some t.1) (first_reason ts)) q.0 ∙ ap some q.1
first-first_reason (t ∷ ts) x (inr q) = ap (λ b. pick b (some t.1) (first_reason ts)) q.0 ∙ first-first_reason ts x q.1

-- A REASON IS GIVEN EXACTLY WHEN ITS TEST IS THE FIRST THAT HOLDS, and none exactly when none does
module _ (cells n : ℕ) (r : List ℕ) where
  pub wrong_first : (x : Reason) → wrong_entry cells n r ≡ some x → FirstWrong x (row_tests cells n r)
  unfolding wrong_entry
  wrong_first x e = first_reason-first (row_tests cells n r) x e

  pub first_wrong : (x : Reason) → FirstWrong x (row_tests cells n r) → wrong_entry cells n r ≡ some x
  unfolding wrong_entry
  first_wrong x f = first-first_reason (row_tests cells n r) x f

  pub wrong_none : wrong_entry cells n r ≡ none → NothingWrong (row_tests cells n r)
  unfolding wrong_entry
  wrong_none e = first_reason-none (row_tests cells n r) e

  pub none_wrong : NothingWrong (row_tests cells n r) → wrong_entry cells n r ≡ none
  unfolding wrong_entry
  none_wrong w = none-first_reason (row_tests cells n r) w

abbrev pub is_no_reason : Option Reason → Bool
is_no_reason (some x) = false
is_no_reason none = true

-- a test and its negation
ltb_not : (a b : ℕ) → ltb a b ≡ not (leb b a)
ltb_not a b = go (leb b a) refl
  where
    go : (t : Bool) → leb b a ≡ t → ltb a b ≡ not t
    go true e = le-ltb a b (leb-true b a e)
    go false e = lt-ltb a b (leb-false b a e)

leb_not : (a b : ℕ) → leb a b ≡ not (ltb b a)
leb_not a b = go (ltb b a) refl
  where
    go : (t : Bool) → ltb b a ≡ t → leb a b ≡ not t
    go true e = lt-leb a b (ltb-true b a e)
    go false e = le-leb a b (ltb-false b a e)

zero_not : (n : ℕ) → eqb n 0 ≡ not (ltb 0 n)
zero_not n = go (ltb 0 n) refl
  where
    go : (t : Bool) → ltb 0 n ≡ t → eqb n 0 ≡ not t
    go true e = ne_eqb n 0 (omega (arith, ltb-true 0 n e))
    go false e = eq-eqb n 0 (omega (arith, ltb-false 0 n e))

-- the three kinds exclude one another: which of their tests hold
data OneKind : Bool → Bool → Bool → Type 0 where
  first : OneKind true false false
  second : OneKind false true false
  third : OneKind false false true
  other : OneKind false false false

kinds : (k : ℕ) → OneKind (eqb k 1) (eqb k 2) (eqb k 3)
kinds k = go (eqb k 1) (eqb k 2) (eqb k 3) refl refl refl
  where
    go : (a b c : Bool) → eqb k 1 ≡ a → eqb k 2 ≡ b → eqb k 3 ≡ c → OneKind a b c
    go true true c p q s = absurd (omega (arith, eqb-true k 1 p, eqb-true k 2 q))
    go true false true p q s = absurd (omega (arith, eqb-true k 1 p, eqb-true k 3 s))
    go true false false p q s = first
    go false true true p q s = absurd (omega (arith, eqb-true k 2 q, eqb-true k 3 s))
    go false true false p q s = second
    go false false true p q s = third
    go false false false p q s = other

-- the tests from the kind on, by their Booleans
abbrev tests_by : (k1 k2 k3 y z below c0 old0 new0 : Bool) → List (Bool × Reason)
tests_by k1 k2 k3 y z below c0 old0 new0 =
    let end = k2 || k3 in
    (not (k1 || end), unknown_kind)
    ∷ (not (y && z), filler_not_zero)
    ∷ (not below, cell_out_of_range)
    ∷ (end && not c0, cell_left)
    ∷ (end && not old0, old_left)
    ∷ (end && not new0, new_left)
    ∷ []

-- an entry exactly when none of them holds
module _ (e : Entry) where
  abbrev Alike : (k1 k2 k3 y z below c0 old0 new0 : Bool) → Type 0
  Alike k1 k2 k3 y z below c0 old0 new0 =
      is_entry (pick (y && (below && z)) (pick k1 (some e) (pick (c0 && (old0 && new0)) (pick k2 (some commit_entry) (pick k3 (some abort_entry) none)) none)) none)
      ≡ is_no_reason (first_reason (tests_by k1 k2 k3 y z below c0 old0 new0))

  agree : {k1 k2 k3 : Bool} → OneKind k1 k2 k3 → (y z below c0 old0 new0 : Bool) → Alike k1 k2 k3 y z below c0 old0 new0
  agree first false z below c0 old0 new0 = refl
  agree first true false true c0 old0 new0 = refl
  agree first true false false c0 old0 new0 = refl
  agree first true true false c0 old0 new0 = refl
  agree first true true true c0 old0 new0 = refl
  agree other false z below c0 old0 new0 = refl
  agree other true z false c0 old0 new0 = refl
  agree other true false true c0 old0 new0 = refl
  agree other true true true false old0 new0 = refl
  agree other true true true true false new0 = refl
  agree other true true true true true false = refl
  agree other true true true true true true = refl
  agree second false z below c0 old0 new0 = refl
  agree second true false true c0 old0 new0 = refl
  agree second true false false c0 old0 new0 = refl
  agree second true true false c0 old0 new0 = refl
  agree second true true true false old0 new0 = refl
  agree second true true true true false new0 = refl
  agree second true true true true true false = refl
  agree second true true true true true true = refl
  agree third false z below c0 old0 new0 = refl
  agree third true false true c0 old0 new0 = refl
  agree third true false false c0 old0 new0 = refl
  agree third true true false c0 old0 new0 = refl
  agree third true true true false old0 new0 = refl
  agree third true true true true false new0 = refl
  agree third true true true true true false = refl
  agree third true true true true true true = refl

-- and the tests before these
agree_all : (long positive number rest : Bool) (e : Option Entry) (ts : List (Bool × Reason)) → is_entry (pick rest e none) ≡ is_no_reason (first_reason ts)
    → is_entry (pick (long && (positive && (number && rest))) e none)
    ≡ is_no_reason (first_reason ((not long, too_short) ∷ (not positive || not number, other_number) ∷ ts))
agree_all false positive number rest e ts h = refl
agree_all true false number rest e ts h = refl
agree_all true true false rest e ts h = refl
agree_all true true true rest e ts h = h

-- AN ENTRY EXACTLY WHEN NO REASON
pub entry_or_wrong : (cells n : ℕ) (r : List ℕ) → is_entry (read_row cells n r) ≡ is_no_reason (wrong_entry cells n r)
unfolding read_row entry_of wrong_entry row_tests
entry_or_wrong cells n r =
    let kind = number_at 1 4 r in let c = number_at 4 8 r in let old = number_at 8 16 r in let new = number_at 8 24 r in
    let y = eqb (number_at 3 5 r) 0 in let z = eqb (number_at 4 12 r) 0 in let below = ltb c cells in
    rw (ltb_not (length r) 32, zero_not n, leb_not cells c)
    (agree_all (leb 32 (length r)) (ltb 0 n) (eqb (number_at 4 0 r) n) (y && (below && z)) (entry_of kind c old new)
    (tests_by (eqb kind 1) (eqb kind 2) (eqb kind 3) y z below (eqb c 0) (eqb old 0) (eqb new 0))
    (agree (update c old new) (kinds kind) y z below (eqb c 0) (eqb old 0) (eqb new 0)))

no_reason : (w : Option Reason) → is_no_reason w ≡ true → w ≡ none
no_reason none h = refl
no_reason (some x) h = absurd (false≢true h)

a-reason : (w : Option Reason) → is_no_reason w ≡ false → (x : Reason) × (w ≡ some x)
a-reason none h = absurd (false≢true (sym h))
a-reason (some x) h = (x, refl)

an_entry : (o : Option Entry) → is_entry o ≡ true → (e : Entry) × (o ≡ some e)
an_entry none h = absurd (false≢true h)
an_entry (some e) h = (e, refl)

no_entry : (o : Option Entry) → is_entry o ≡ false → o ≡ none
no_entry none h = refl
no_entry (some e) h = absurd (false≢true (sym h))

-- the same, one by one
module _ (cells n : ℕ) (r : List ℕ) where
  pub entry_right : (e : Entry) → read_row cells n r ≡ some e → wrong_entry cells n r ≡ none
  entry_right e p = no_reason (wrong_entry cells n r) (sym (entry_or_wrong cells n r) ∙ ap is_entry p)

  pub right_entry : wrong_entry cells n r ≡ none → (e : Entry) × (read_row cells n r ≡ some e)
  right_entry p = an_entry (read_row cells n r) (entry_or_wrong cells n r ∙ ap is_no_reason p)

  pub nothing_wrong : read_row cells n r ≡ none → (x : Reason) × (wrong_entry cells n r ≡ some x)
  nothing_wrong p = a-reason (wrong_entry cells n r) (sym (entry_or_wrong cells n r) ∙ ap is_entry p)

  pub wrong_nothing : (x : Reason) → wrong_entry cells n r ≡ some x → read_row cells n r ≡ none
  wrong_nothing x p = no_entry (read_row cells n r) (entry_or_wrong cells n r ∙ ap is_no_reason p)

-- A ROW THAT MUST BE AN UPDATE: its reason as an entry, else that it is none
abbrev or_else : Option Reason → Option Reason → Option Reason
or_else (some x) y = some x
or_else none y = y

first_reason-append : (ts us : List (Bool × Reason)) → first_reason (ts ++ us) ≡ or_else (first_reason ts) (first_reason us)
first_reason-append [] us = refl
first_reason-append (t ∷ ts) us = go t.0 (first_reason-append ts us)
  where
    go : (b : Bool) → first_reason (ts ++ us) ≡ or_else (first_reason ts) (first_reason us)
        → pick b (some t.1) (first_reason (ts ++ us)) ≡ or_else (pick b (some t.1) (first_reason ts)) (first_reason us)
    go true ih = refl
    go false ih = ih

abbrev is_not_update : Option Reason → Bool
is_not_update none = false
is_not_update (some too_short) = false
is_not_update (some other_number) = false
is_not_update (some unknown_kind) = false
is_not_update (some filler_not_zero) = false
is_not_update (some cell_out_of_range) = false
is_not_update (some cell_left) = false
is_not_update (some old_left) = false
is_not_update (some new_left) = false
is_not_update (some not_update) = true
is_not_update (some hole) = false

abbrev AllOther : List (Bool × Reason) → Type 0
AllOther [] = Unit {0}
AllOther (t ∷ ts) = (is_not_update (some t.1) ≡ false) × AllOther ts

first_reason-other : (ts : List (Bool × Reason)) → AllOther ts → is_not_update (first_reason ts) ≡ false
first_reason-other [] o = refl
first_reason-other (t ∷ ts) o = go t.0 (first_reason-other ts o.1)
  where
    go : (b : Bool) → is_not_update (first_reason ts) ≡ false → is_not_update (pick b (some t.1) (first_reason ts)) ≡ false
    go true ih = o.0
    go false ih = ih

module _ (cells n : ℕ) (r : List ℕ) where
  -- an entry's reasons are the first eight
  pub entry_other : wrong_entry cells n r ≡ some not_update → ⊥
  unfolding wrong_entry row_tests
  entry_other p =
      false≢true (sym (first_reason-other (row_tests cells n r) (refl, (refl, (refl, (refl, (refl, (refl, (refl, (refl, tt))))))))) ∙ ap is_not_update p)

  update-reason : wrong_update cells n r ≡ or_else (wrong_entry cells n r) (pick (not (is_update (read_row cells n r))) (some not_update) none)
  unfolding wrong_update wrong_entry
  update-reason = first_reason-append (row_tests cells n r) ((not (is_update (read_row cells n r)), not_update) ∷ [])

  pub wrong-update : (x : Reason) → wrong_entry cells n r ≡ some x → wrong_update cells n r ≡ some x
  wrong-update x p = update-reason ∙ ap (λ w. or_else w (pick (not (is_update (read_row cells n r))) (some not_update) none)) p

  pub end_not_update : wrong_entry cells n r ≡ none → is_update (read_row cells n r) ≡ false → wrong_update cells n r ≡ some not_update
  end_not_update p q =
      update-reason ∙ ap (λ w. or_else w (pick (not (is_update (read_row cells n r))) (some not_update) none)) p
      ∙ ap (λ b. pick (not b) (some not_update) none) q

  pub not_update_end : wrong_update cells n r ≡ some not_update → (wrong_entry cells n r ≡ none) × (is_update (read_row cells n r) ≡ false)
  not_update_end p = go (wrong_entry cells n r) refl (is_update (read_row cells n r)) refl (sym update-reason ∙ p)
    where
      go : (w : Option Reason) → wrong_entry cells n r ≡ w → (u : Bool) → is_update (read_row cells n r) ≡ u
          → or_else w (pick (not u) (some not_update) none) ≡ some not_update → (wrong_entry cells n r ≡ none) × (is_update (read_row cells n r) ≡ false)
      go (some x) q u v h = absurd (entry_other (q ∙ h))
      go none q true v h = some≢none (sym h)
      go none q false v h = (q, v)

  -- AN UPDATE EXACTLY WHEN NO REASON
  pub update_or_wrong : is_update (read_row cells n r) ≡ is_no_reason (wrong_update cells n r)
  update_or_wrong = go (read_row cells n r) (wrong_entry cells n r) (entry_or_wrong cells n r) ∙ ap is_no_reason (sym update-reason)
    where
      go : (o : Option Entry) (w : Option Reason) → is_entry o ≡ is_no_reason w → is_update o ≡ is_no_reason (or_else w (pick (not (is_update o)) (some not_update) none))
      go none none h = absurd (false≢true h)
      go none (some x) h = refl
      go (some (update c old new)) none h = refl
      go (some (update c old new)) (some x) h = absurd (false≢true (sym h))
      go (some commit_entry) none h = refl
      go (some commit_entry) (some x) h = refl
      go (some abort_entry) none h = refl
      go (some abort_entry) (some x) h = refl

-- THE REASONS AT ROWS, of a table of 2 cells. The bytes of a row, by the lowest of each field
abbrev row : ℕ → ℕ → ℕ → ℕ → ℕ → ℕ → ℕ → List ℕ
row n kind y c z old new =
    n ∷ 0 ∷ 0 ∷ 0 ∷ kind ∷ y ∷ 0 ∷ 0 ∷ c ∷ 0 ∷ 0 ∷ 0 ∷ z ∷ 0 ∷ 0 ∷ 0
    ∷ old ∷ 0 ∷ 0 ∷ 0 ∷ 0 ∷ 0 ∷ 0 ∷ 0
    ∷ new ∷ 0 ∷ 0 ∷ 0 ∷ 0 ∷ 0 ∷ 0 ∷ 0
    ∷ []

-- with another byte at a place
abbrev with : ℕ → ℕ → List ℕ → List ℕ
with at b r = put r at (b ∷ [])

-- a row, read as entry `number`: what is wrong with it as an entry, and as an update
pub record Sample : Type 0 where
  pub number : ℕ
  pub bytes : List ℕ
  pub entry : Option Reason
  pub update : Option Reason

-- wrong as an entry, and so as an update; right as both; right as an entry alone
abbrev wrong : Reason → ℕ → List ℕ → Sample
wrong x n r = record { number = n; bytes = r; entry = some x; update = some x }

abbrev right : ℕ → List ℕ → Sample
right n r = record { number = n; bytes = r; entry = none; update = none }

abbrev ends : ℕ → List ℕ → Sample
ends n r = record { number = n; bytes = r; entry = none; update = some not_update }

abbrev pub given : Sample → Option Reason × Option Reason
given s = (wrong_entry 2 s.number s.bytes, wrong_update 2 s.number s.bytes)

abbrev pub expected : Sample → Option Reason × Option Reason
expected s = (s.entry, s.update)

abbrev pub samples : List Sample
samples =
    -- nothing is wrong: an update of the highest cell, a commit and an abort, and a slice longer than a row
    right 3 (row 3 1 0 1 0 5 6)
    ∷ ends 3 (row 3 2 0 0 0 0 0)
    ∷ ends 3 (row 3 3 0 0 0 0 0)
    ∷ right 3 (row 3 1 0 1 0 5 6 ++ (9 ∷ []))
    -- each reason alone
    ∷ wrong too_short 3 (take 31 (row 3 1 0 1 0 5 6))
    ∷ wrong other_number 3 (row 4 1 0 1 0 5 6)
    ∷ wrong other_number 3 (with 3 1 (row 3 1 0 1 0 5 6))
    ∷ wrong unknown_kind 3 (row 3 0 0 1 0 5 6)
    ∷ wrong unknown_kind 3 (row 3 4 0 1 0 5 6)
    ∷ wrong unknown_kind 3 (row 3 255 0 1 0 5 6)
    ∷ wrong filler_not_zero 3 (row 3 1 1 1 0 5 6)
    ∷ wrong filler_not_zero 3 (with 7 1 (row 3 1 0 1 0 5 6))
    ∷ wrong filler_not_zero 3 (row 3 1 0 1 1 5 6)
    ∷ wrong filler_not_zero 3 (with 15 1 (row 3 1 0 1 0 5 6))
    ∷ wrong cell_out_of_range 3 (row 3 1 0 2 0 5 6)
    ∷ wrong cell_out_of_range 3 (with 11 1 (row 3 1 0 1 0 5 6))
    ∷ wrong cell_left 3 (row 3 2 0 1 0 0 0)
    ∷ wrong cell_left 3 (row 3 3 0 1 0 0 0)
    ∷ wrong old_left 3 (row 3 2 0 0 0 5 0)
    ∷ wrong old_left 3 (with 23 1 (row 3 3 0 0 0 0 0))
    ∷ wrong new_left 3 (row 3 3 0 0 0 0 6)
    ∷ wrong new_left 3 (with 31 1 (row 3 3 0 0 0 0 0))
    -- 0 is never the right number, and a slice of nothing is too short
    ∷ wrong other_number 0 (row 0 1 0 1 0 5 6)
    ∷ wrong too_short 0 []
    -- each with the next, the last with not being an update: the first is named
    ∷ wrong too_short 3 (take 31 (row 4 1 0 1 0 5 6))
    ∷ wrong other_number 3 (row 4 4 0 1 0 5 6)
    ∷ wrong unknown_kind 3 (row 3 4 1 1 0 5 6)
    ∷ wrong filler_not_zero 3 (row 3 1 1 2 0 5 6)
    ∷ wrong filler_not_zero 3 (row 3 1 0 2 1 5 6)
    ∷ wrong cell_out_of_range 3 (row 3 2 0 5 0 0 0)
    ∷ wrong cell_left 3 (row 3 2 0 1 0 5 0)
    ∷ wrong old_left 3 (row 3 2 0 0 0 5 6)
    ∷ wrong new_left 3 (row 3 2 0 0 0 0 6)
    -- all at once
    ∷ wrong too_short 0 (take 31 (row 4 4 1 5 1 5 6))
    ∷ wrong other_number 3 (row 4 4 1 5 1 5 6)
    ∷ wrong unknown_kind 3 (row 3 4 1 5 1 5 6)
    ∷ wrong filler_not_zero 3 (row 3 2 1 5 1 5 6)
    ∷ wrong cell_out_of_range 3 (row 3 2 0 5 0 5 6)
    ∷ wrong cell_left 3 (row 3 2 0 1 0 5 6)
    ∷ []

pub samples_judged : map given samples ≡ map expected samples
unfolding number_of number_at put entry_of read_row row_tests wrong_entry wrong_update
samples_judged = refl
