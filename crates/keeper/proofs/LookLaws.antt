-- Look: its number, and the part for each way that it ends. A look that isn't refused passed every test, so the entry's row stands in its buffer.
use Prim.Native.Nat.{ℕ, ◌+◌, ◌-◌, ◌*◌, ◌≤◌, ◌<◌}
use mathlib.Core.Path.{◌≡◌, refl, sym, ap, ◌∙◌}
use Rattle.std.specs.Prelude.{Result, IsErrAnd}
use mathlib.Core.Bool.{Bool, true, false, ◌||◌}
use mathlib.Core.List.{List, []}
use native.Mathlib.Omega.{arith}
use borrow.Author.Tests.{le-leb, lt-leb, leb-false, eqb-true}
use lib.Dec.{leb, ltb}
use lib.ListN.{length, take, drop}
use Rattle.scope.specs.Bytes.{pick}
use Rattle.scope.specs.Keeper.{Keeper, refusal_of, part_of, row_at, waiting_row, medium_row}
use Rattle.scope.specs.Refusals.{Look, is_medium, is_rows, lent, unfit, tests, refusal}
use Rattle.scope.specs.Calls.{performed, act}
use Rattle.scope.proofs.Refusals.{refusal-none, numbered-refused, numbered-done}
use Rattle.scope.proofs.Callers.{refusal-answered}
use Rattle.scope.proofs.Sound.{fit_sound, fit_lent}
use Rattle.state.specs.State.{state_of}
use Rattle.state.specs.declared.Numbers.{Numbers}
use Rattle.state.proofs.Facts.{and_left, and_right, sound_facts, medium_fits}
use Rattle.state.specs.Lent.{lent_to}
use Rattle.answer.specs.Answer.{number_of, number_in}
use Rattle.answer.specs.declared.Refusal.{Refusal}
use Rattle.answer.proofs.Refusals.{number-above}
use Rattle.refusal.proofs.Asking.{handed-on}
use Rattle.keeper.specs.Answers.{handed}
use Rattle.keeper.specs.declared.State.{State}

or_left : (a b : Bool) → (a || b) ≡ false → a ≡ false
or_left false b e = refl
or_left true b e = cc

-- what a look that isn't refused knows
pub record Looking (n : Numbers) (x : ℕ) (m w : List ℕ) : Type 0 where
  pub some-slots : 0 < n.slots
  pub numbered : 0 < x
  pub in_medium : length m ≡ 32 + 32 * n.slots + 8 * n.cells
  pub in_rows : length w ≡ 32 * n.slots

module _ (s : State) (n : ℕ) (m w : List ℕ) where
  k : Keeper
  k = handed s m [] [] [] w

  pub number_is : (number : ℕ) → number ≡ refusal (Look n) (lent_to s.numbers s.phase m [] [] [] w) → number ≡ refusal_of (act (Look n) (handed s m [] [] [] w)).answer
  unfolding handed
  number_is number e = e ∙ sym (refusal-answered (Look n) (lent_to s.numbers s.phase m [] [] [] w))

  -- `?` hands the refusal on
  pub refused_is : {T : Type 0} (x : Refusal) (r : Result T Refusal) → IsErrAnd r (λ y. y ≡ x) → number_of x ≡ refusal (Look n) (lent_to s.numbers s.phase m [] [] [] w)
      → number_in r ≡ refusal_of (act (Look n) (handed s m [] [] [] w)).answer
  refused_is x r i e = rw (handed-on x r i) (number_is (number_of x) e)

  pub no_part : (x : Refusal) → number_of x ≡ refusal_of (act (Look n) (handed s m [] [] [] w)).answer → [] ≡ part_of (act (Look n) (handed s m [] [] [] w)).answer
  unfolding performed handed
  no_part x e =
      let j = lent_to s.numbers s.phase m [] [] [] w in
      ap (λ o. part_of o.answer) (numbered-refused (Look n) j (number_of x) (e ∙ refusal-answered (Look n) j) (number-above x))

  module _ (e : 0 ≡ refusal (Look n) (lent_to s.numbers s.phase m [] [] [] w)) where
    pub looking : Looking s.numbers n m w
    unfolding refusal tests unfit lent lent_to state_of
    looking =
        let j = lent_to s.numbers s.phase m [] [] [] w in
        let t = refusal-none (Look n) j (sym e) in
        let f = sound_facts s.numbers s.phase (fit_sound (Look n) j t.0) in
        let i = fit_lent (Look n) j t.0 in
        record {
          some-slots = omega (arith, f.slots≥);
          numbered = omega (arith, leb-false n s.numbers.h (or_left (leb n s.numbers.h) (ltb s.numbers.l n) t.1.1.0));
          in_medium = medium_fits s.numbers m (and_left (is_medium j) (is_rows j) i);
          in_rows = eqb-true _ _ (and_right (is_medium j) (is_rows j) i);
        }

    part_is : (b : List ℕ) → b ≡ pick (leb n s.numbers.f) (medium_row k n) (waiting_row k n) → b ≡ part_of (act (Look n) (handed s m [] [] [] w)).answer
    unfolding performed handed lent_to state_of k
    part_is b q = q ∙ ap (λ o. part_of o.answer) (numbered-done (Look n) (lent_to s.numbers s.phase m [] [] [] w) 0 e refl)

    module _ (row : ℕ) (r : row ≡ row_at s.numbers.slots n) where
      pub medium-part : n ≤ s.numbers.f → take (32 + row + 32 - (32 + row)) (drop (32 + row) m) ≡ part_of (act (Look n) (handed s m [] [] [] w)).answer
      unfolding handed lent_to state_of medium_row k
      medium-part i =
          let z : 32 + row + 32 - (32 + row) ≡ 32 = omega arith in
          part_is _ (rw (z, r) (simp (le-leb n s.numbers.f i)))

      pub waiting-part : s.numbers.f < n → take (row + 32 - row) (drop row w) ≡ part_of (act (Look n) (handed s m [] [] [] w)).answer
      unfolding handed lent_to state_of waiting_row k
      waiting-part i =
          let z : row + 32 - row ≡ 32 = omega arith in
          part_is _ (rw (z, r) (simp (lt-leb n s.numbers.f i)))
