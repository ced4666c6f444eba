-- What force, write-back and cut leave where they are done: the definition's record, field by field.
use Prim.Native.Nat.{ℕ, ◌+◌, ◌≤◌, ◌<◌}
use mathlib.Core.Path.{◌≡◌, refl, sym, ap, ◌∙◌}
use mathlib.Core.Bool.{true, false}
use mathlib.Core.List.{List, []}
use borrow.Author.Tests.{lt-ltb, le-ltb}
use native.Mathlib.Omega.{arith}
use lib.Dec.{ltb}
use lib.ListN.{get_or, set}
use Rattle.std.specs.Prelude.{Ok}
use Rattle.scope.specs.Bytes.{bytes_of, put}
use Rattle.scope.specs.Keeper.{Keeper, done, clean, stored, cell_at, head_bytes, with_state, with_medium, stored_next, dropped_to, store_cell, store_head}
use Rattle.scope.specs.Refusals.{Force, WriteBack, Cut, refusal}
use Rattle.scope.specs.Calls.{forced, cleaned, act, performed}
use Rattle.state.specs.State.{state_of}
use Rattle.state.specs.declared.Numbers.{Numbers}
use Rattle.state.specs.declared.Phase as code
use Rattle.state.specs.Lent.{lent_to}
use Rattle.keeper.specs.Answers.{answer_of, written_back, handed, leaves}
use Rattle.keeper.specs.declared.State.{State}
use Rattle.keeper.specs.declared.Outcome.{Outcome}
use Rattle.keeper.specs.declared.Back.{Back}
use Rattle.keeper.specs.declared.Back.TheVariants.{Stored, Clean}
use Rattle.scope.proofs.Refusals.{numbered-done}

module _ (s : State) where
  module _ (r : Outcome ℕ) where
    -- force

    module _ (medium waiting : List ℕ) (e : 0 ≡ refusal Force (lent_to s.numbers s.phase medium [] [] [] waiting)) where
      pub force_none : s.numbers.l ≤ s.numbers.f → r ≡ record { answer = Ok 0; state = record { numbers = s.numbers; phase = s.phase } }
          → leaves (answer_of done r.answer) r.state medium [] [] [] waiting ≡ act Force (handed s medium [] [] [] waiting)
      unfolding performed leaves handed lent_to state_of
      force_none h q =
          let k = lent_to s.numbers s.phase medium [] [] [] waiting in
          let a : performed Force k ≡ record { answer = done 0; keeper = k } = simp (le-ltb s.numbers.f s.numbers.l h) in
          rw q (sym a ∙ numbered-done Force k 0 e refl)

      pub force_stored : (a : Numbers) (m : List ℕ) → s.numbers.f < s.numbers.l
          → ((p : code.Phase) → lent_to a p m [] [] [] waiting ≡ forced (lent_to s.numbers p medium [] [] [] waiting))
          → r ≡ record { answer = Ok a.f; state = record { numbers = a; phase = s.phase } }
          → leaves (answer_of done r.answer) r.state m [] [] [] waiting ≡ act Force (handed s medium [] [] [] waiting)
      unfolding performed leaves handed forced lent_to state_of with_state with_medium stored_next
      force_stored a m h p q =
          let k = lent_to s.numbers s.phase medium [] [] [] waiting in
          let d : performed Force k ≡ record { answer = done (s.numbers.f + 1); keeper = forced k } = simp (lt-ltb s.numbers.f s.numbers.l h) in
          let i : a.f ≡ s.numbers.f + 1 = ap (λ (x : Keeper). x.state.f) (p s.phase) in
          rw q (ap (λ (x : Keeper). record { answer = done a.f; keeper = x }) (p s.phase) ∙ ap (λ n. record { answer = done n; keeper = forced k }) i ∙ sym d ∙ numbered-done Force k 0 e refl)

    -- cut

    module _ (p : ℕ) (medium first : List ℕ) (e : 0 ≡ refusal (Cut p) (lent_to s.numbers s.phase medium [] first [] [])) where
      pub cut-done : (m : List ℕ) → m ≡ put medium 0 (head_bytes s.numbers.cells s.numbers.slots p)
          → r ≡ record { answer = Ok 0; state = record { numbers = record { cells = s.numbers.cells; slots = s.numbers.slots; h = p; f = s.numbers.f; l = s.numbers.l; o = s.numbers.o }; phase = s.phase } }
          → leaves (answer_of done r.answer) r.state m [] first [] [] ≡ act (Cut p) (handed s medium [] first [] [])
      unfolding performed leaves handed lent_to state_of with_state with_medium dropped_to store_head
      cut-done m g q = rw (q, g) (numbered-done (Cut p) (lent_to s.numbers s.phase medium [] first [] []) 0 e refl)

  -- write-back

  module _ (cell : ℕ) (medium current first last : List ℕ) (r : Outcome Back)
      (e : 0 ≡ refusal (WriteBack cell) (lent_to s.numbers s.phase medium current first last [])) where
    pub back_clean : (at : ℕ) → at ≡ cell → get_or first at 0 ≡ 0 → r ≡ record { answer = Ok Clean; state = record { numbers = s.numbers; phase = s.phase } }
        → leaves (answer_of written_back r.answer) r.state medium current first last [] ≡ act (WriteBack cell) (handed s medium current first last [])
    unfolding performed leaves handed lent_to
    back_clean at p q x =
        let h : ltb 0 (get_or first cell 0) ≡ false = ap (λ i. ltb 0 (get_or first i 0)) (sym p) ∙ le-ltb 0 (get_or first at 0) (omega arith) in
        let k = lent_to s.numbers s.phase medium current first last [] in
        let a : performed (WriteBack cell) k ≡ record { answer = clean; keeper = k } = simp h in
        rw x (sym a ∙ numbered-done (WriteBack cell) k 0 e refl)

    pub back_stored : (at : ℕ) (m : List ℕ) → at ≡ cell → (get_or first at 0 ≡ 0 → ⊥)
        → m ≡ put medium (cell_at s.numbers.slots cell) (bytes_of 8 (get_or current at 0))
        → r ≡ record { answer = Ok Stored; state = record { numbers = s.numbers; phase = s.phase } }
        → leaves (answer_of written_back r.answer) r.state m current (set first at 0) last [] ≡ act (WriteBack cell) (handed s medium current first last [])
    unfolding performed leaves handed lent_to state_of cleaned store_cell with_medium
    back_stored at m p q g x =
        let h : ltb 0 (get_or first cell 0) ≡ true = ap (λ i. ltb 0 (get_or first i 0)) (sym p) ∙ lt-ltb 0 (get_or first at 0) (omega arith) in
        let k = lent_to s.numbers s.phase medium current first last [] in
        let a : performed (WriteBack cell) k ≡ record { answer = stored; keeper = cleaned cell (store_cell cell k) } = simp h in
        rw (x, g, p) (sym a ∙ numbered-done (WriteBack cell) k 0 e refl)
