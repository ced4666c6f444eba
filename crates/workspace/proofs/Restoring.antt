-- What one waiting row does to the workspaces, by what it reads as, and one turn of each loop, by peeling its definition.
use Prim.Native.Nat.{ℕ, suc, ◌+◌, ◌-◌, ◌≤◌, ◌<◌}
use mathlib.Core.Path.{◌≡◌, refl, sym, ap, ◌∙◌}
use mathlib.Core.Bool.{Bool, true, false, ◌&&◌, ◌||◌, or-true, or-false, false≢true}
use mathlib.Core.List.{List}
use mathlib.Core.Option.{Option, none, some}
use native.Mathlib.Omega.{arith}
use native.Mathlib.Numerals.{add-one}
use borrow.Author.Tests.{lt-ltb, le-ltb, le-leb, lt-leb, eq-eqb, ne_eqb}
use lib.Dec.{ltb, leb}
use lib.ListN.{length, get_or, set, drop, drop_of_length-le}
use lib.Seq.{drop-cons}
use Rattle.scope.specs.Row.{Entry, update, commit_entry, abort_entry, is_update}
use Rattle.scope.specs.Keeper.{first_mark}
use Rattle.scope.specs.Refusals.{any_first}
use Rattle.workspace.specs.Values.{Values, values, assigned, restored, rolled_from}

-- marks and assignments

pub mark_set : (old n : ℕ) → old ≡ 0 → n ≡ first_mark old n
unfolding first_mark
mark_set old n h = simp (eq-eqb old 0 h)

pub mark_kept : (old n : ℕ) → (old ≡ 0 → ⊥) → old ≡ first_mark old n
unfolding first_mark
mark_kept old n h = simp (ne_eqb old 0 h)

pub assign_is : (current first last : List ℕ) (at c v n mark : ℕ) → at ≡ c → mark ≡ first_mark (get_or first at 0) n
    → values (set current at v) (set first at mark) (set last at n) ≡ assigned n c v (values current first last)
unfolding assigned values
assign_is current first last at c v n mark p q = rw (q, p)

-- one row restored

pub restore-other : (n : ℕ) (o : Option Entry) (d : Values) → false ≡ is_update o → d ≡ restored n o d
unfolding restored
restore-other n none d h = refl
restore-other n (some (update c a b)) d h = absurd (false≢true h)
restore-other n (some commit_entry) d h = refl
restore-other n (some abort_entry) d h = refl

pub restore-update : (n : ℕ) (o : Option Entry) (d d' : Values) (c a b : ℕ) → some (update c a b) ≡ o → d' ≡ assigned n c a d → d' ≡ restored n o d
unfolding restored
restore-update n o d d' c a b p q = q ∙ ap (λ x. restored n x d) p

-- the loops

module _ (e : ℕ → Option Entry) (n o : ℕ) (D : Values) where
  rolled_suc : (j k m : ℕ) (d : Values) → j ≡ suc k → rolled_from e n j m d ≡ rolled_from e n k (m - 1) (restored n (e m) d)
  unfolding rolled_from
  rolled_suc j k m d h = rw h

  pub roll_again : (m : ℕ) (d d' : Values) → D ≡ rolled_from e n (m - o) m d → o < m → d' ≡ restored n (e (m - 1 + 1)) d → D ≡ rolled_from e n (m - 1 - o) (m - 1) d'
  roll_again m d d' p h q =
      let z : m - o ≡ suc (m - 1 - o) = omega arith in
      let k : m - 1 + 1 ≡ m = omega arith in
      p ∙ rolled_suc (m - o) (m - 1 - o) m d z ∙ rw (q, k)

  pub roll_end : (m : ℕ) (d : Values) → D ≡ rolled_from e n (m - o) m d → m ≤ o → d ≡ D
  unfolding rolled_from
  roll_end m d p h = let z : m - o ≡ 0 = omega arith in sym (p ∙ rw z)

module _ (p : ℕ) (first : List ℕ) (B found : Bool) (i : ℕ) (e : B ≡ (found || any_first p (drop i first))) where
  first_cons : i < length first → B ≡ (found || ((ltb 0 (get_or first i 0) && leb (get_or first i 0) p) || any_first p (drop (i + 1) first)))
  unfolding any_first
  first_cons h = e ∙ rw (drop-cons first i 0 h, add-one)

  module _ (h : i < length first) (f : Bool) where
    pub first_found : 0 < get_or first i 0 → get_or first i 0 ≤ p → f ≡ true → B ≡ (f || any_first p (drop (i + 1) first))
    first_found a b q = first_cons h ∙ simp (lt-ltb 0 (get_or first i 0) a, le-leb (get_or first i 0) p b, or-true, q)

    pub first_above : 0 < get_or first i 0 → p < get_or first i 0 → f ≡ found → B ≡ (f || any_first p (drop (i + 1) first))
    first_above a b q = first_cons h ∙ simp (lt-ltb 0 (get_or first i 0) a, lt-leb (get_or first i 0) p b, q)

    pub first-zero : get_or first i 0 ≤ 0 → f ≡ found → B ≡ (f || any_first p (drop (i + 1) first))
    first-zero a q = first_cons h ∙ simp (le-ltb 0 (get_or first i 0) a, q)

  pub first-end : length first ≤ i → found ≡ B
  unfolding any_first
  first-end h = sym (e ∙ rw (drop_of_length-le first h) (or-false found))
