-- The steps on the code's numbers are the papers' steps on the keeper that lends them: field by field; and one turn of the loop, by peeling its
-- definition.
use Prim.Native.Nat.{ℕ, suc, ◌+◌, ◌*◌, ◌-◌, ◌%◌, ◌≤◌, ◌<◌}
use mathlib.Core.Path.{◌≡◌, sym, ap, ◌∙◌}
use mathlib.Core.List.{List, []}
use native.Mathlib.Nat.{mod-lt, zero-add}
use native.Mathlib.Omega.{arith}
use lib.ListN.{length, take, drop}
use Rattle.scope.specs.Bytes.{put}
use Rattle.scope.specs.Row.{row_bytes}
use Rattle.scope.specs.Keeper.{Keeper, State, row_at, waiting_row, with_state, with_medium, with_waiting, made_to, stored_next, append}
use Rattle.scope.specs.Calls.{commit_made, forced, forced_by}
use Rattle.scope.proofs.Bytes.{length-put, length-row}
use Rattle.row.specs.Row.{entry}
use Rattle.row.specs.declared.Entry.TheVariants as what
use Rattle.state.specs.State.{state_of}
use Rattle.state.specs.declared.Numbers.{Numbers}
use Rattle.state.specs.declared.Phase.{Phase}
use Rattle.state.specs.declared.Phase.TheVariants.{Idle}
use Rattle.state.specs.Lent.{lent_to}
use Rattle.forcing.specs.Storing.{Storing}

pub made_is : (n : Numbers) (i : ℕ) (w w' : List ℕ) → i ≡ n.l + 1 → w' ≡ put w (row_at n.slots i) (row_bytes i (entry what.Commit)) → (p : Phase) (m : List ℕ)
    → lent_to (record { cells = n.cells; slots = n.slots; h = n.h; f = n.f; l = i; o = i }) Idle m [] [] [] w' ≡ commit_made (lent_to n p m [] [] [] w)
unfolding commit_made lent_to state_of with_state with_waiting made_to append
made_is n i w w' a b p m = rw (b, a)

pub stored_is : (n : Numbers) (i : ℕ) (m m' w : List ℕ) → i ≡ n.f + 1 → m' ≡ put m (32 + row_at n.slots i) (take 32 (drop (row_at n.slots i) w)) → (p : Phase)
    → lent_to (record { cells = n.cells; slots = n.slots; h = n.h; f = i; l = n.l; o = n.o }) p m' [] [] [] w ≡ forced (lent_to n p m [] [] [] w)
unfolding forced lent_to state_of with_state with_medium stored_next waiting_row
stored_is n i m m' w a b p = rw (b, a)

-- what one of force's steps leaves
module _ (n r : Numbers) (m m' w : List ℕ) (e : (p : Phase) → lent_to r p m' [] [] [] w ≡ forced (lent_to n p m [] [] [] w)) where
  numbers≡ : (r.slots ≡ n.slots) × (r.l ≡ n.l) × (r.f ≡ n.f + 1)
  unfolding forced lent_to state_of with_state with_medium stored_next
  numbers≡ = let q = ap (λ (k : Keeper). k.state) (e Idle) in (ap (λ (s : State). s.slots) q, ap (λ (s : State). s.l) q, ap (λ (s : State). s.f) q)

  medium≡ : m' ≡ put m (32 + 32 * ((n.f + 1 - 1) % n.slots)) (take 32 (drop (32 * ((n.f + 1 - 1) % n.slots)) w))
  unfolding forced lent_to state_of with_state with_medium waiting_row row_at
  medium≡ = ap (λ (k : Keeper). k.medium) (e Idle)

  module _ (s : Storing n m w) where
    pub same-room : length m' ≡ length m
    same-room =
        let low = mod-lt (n.f + 1 - 1) s.some-slots in
        let row = simp zero-add at (length-row 0 n.slots (n.f + 1 - 1) w s.some-slots (omega (arith, s.in_rows))) in
        ap length medium≡ ∙ length-put m (take 32 (drop (32 * ((n.f + 1 - 1) % n.slots)) w)) (32 + 32 * ((n.f + 1 - 1) % n.slots)) (omega (arith, low, row, s.in_medium))

    pub still_storing : Storing r m' w
    still_storing = omega (arith, numbers≡, same-room, s)

    pub fewer : n.f < n.l → r.l - r.f < n.l - n.f
    fewer h = omega (arith, numbers≡)

    pub forced_again : (D : Phase → Keeper) → ((p : Phase) → D p ≡ forced_by (n.l - n.f) (lent_to n p m [] [] [] w)) → n.f < n.l
        → (p : Phase) → D p ≡ forced_by (r.l - r.f) (lent_to r p m' [] [] [] w)
    unfolding forced_by
    forced_again D d h p =
        let z : n.l - n.f ≡ suc (r.l - r.f) = omega (arith, numbers≡) in
        d p ∙ ap (λ j. forced_by j (lent_to n p m [] [] [] w)) z ∙ ap (forced_by (r.l - r.f)) (sym (e p))

pub forced-end : (n : Numbers) (m w : List ℕ) (D : Phase → Keeper) → ((p : Phase) → D p ≡ forced_by (n.l - n.f) (lent_to n p m [] [] [] w)) → n.l ≤ n.f
    → (p : Phase) → lent_to n p m [] [] [] w ≡ D p
unfolding forced_by
forced-end n m w D d h p = let z : n.l - n.f ≡ 0 = omega arith in sym (d p ∙ rw z)
