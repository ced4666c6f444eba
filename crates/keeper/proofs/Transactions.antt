-- What begin, read, write, commit and abort leave where they are done: the definition's record, field by field.
use Prim.Native.Nat.{ℕ, ◌+◌, ◌-◌}
use mathlib.Core.Path.{◌≡◌, refl, sym, ap, ◌∙◌}
use mathlib.Core.Bool.{true, false}
use mathlib.Core.List.{List, []}
use lib.ListN.{get_or}
use Rattle.std.specs.Prelude.{Ok}
use Rattle.scope.specs.Bytes.{pick, put}
use Rattle.scope.specs.Row.{update, abort_entry, row_bytes}
use Rattle.scope.specs.Keeper.{Keeper, Outcome, Phase, idle, run, done, is_run, row_at, with_state, with_waiting, made_to, assign, append}
use Rattle.scope.specs.Refusals.{Begin, Read, Write, Commit, Abort, refusal}
use Rattle.scope.specs.Keeper as papers
use Rattle.scope.specs.Calls.{commit_made, forced_by, rolled_back, act, performed}
use Rattle.state.specs.State.{phase_of, state_of}
use Rattle.state.specs.declared.Numbers.{Numbers}
use Rattle.state.specs.declared.Phase as code
use Rattle.state.specs.declared.Phase.TheVariants.{Idle, Run}
use Rattle.row.specs.Row.{entry}
use Rattle.row.specs.declared.Entry.TheVariants as what
use Rattle.journal.specs.Entries.{entry_in}
use Rattle.workspace.specs.Values.{Values, values, assigned, rolled_from}
use Rattle.workspace.proofs.Alike.{with_values, rollback-values}
use Rattle.state.specs.Lent.{lent_to}
use Rattle.keeper.specs.Answers.{answer_of, handed, leaves}
use Rattle.keeper.specs.declared.State.{State}
use Rattle.keeper.specs.declared.Outcome as result
use Rattle.scope.proofs.Refusals.{numbered-done}

-- what commit's first step leaves of the numbers
pub made_numbers : (n a : Numbers) (waiting w : List ℕ) → ((p : code.Phase) (x : List ℕ) → lent_to a Idle x [] [] [] w ≡ commit_made (lent_to n p x [] [] [] waiting))
    → (a.l ≡ n.l + 1) × (a.f ≡ n.f) × (a.slots ≡ n.slots)
unfolding commit_made lent_to state_of with_state made_to
made_numbers n a waiting w p =
    let q = ap (λ (k : Keeper). k.state) (p Idle []) in (ap (λ (s : papers.State). s.l) q, ap (λ (s : papers.State). s.f) q, ap (λ (s : papers.State). s.slots) q)

module _ (s : State) (r : result.Outcome ℕ) where
  -- read

  module _ (cell : ℕ) (current : List ℕ) (e : 0 ≡ refusal (Read cell) (lent_to s.numbers s.phase [] current [] [] [])) where
    pub read_done : (at v : ℕ) → at ≡ cell → v ≡ get_or current at 0 → r ≡ record { answer = Ok v; state = record { numbers = s.numbers; phase = s.phase } }
        → leaves (answer_of done r.answer) r.state [] current [] [] [] ≡ act (Read cell) (handed s [] current [] [] [])
    unfolding performed leaves handed lent_to
    read_done at v p q f = rw (f, q, p) (numbered-done (Read cell) (lent_to s.numbers s.phase [] current [] [] []) 0 e refl)

  -- commit

  module _ (medium waiting : List ℕ) (e : 0 ≡ refusal Commit (lent_to s.numbers s.phase medium [] [] [] waiting)) where
    pub commit_done : (a b : Numbers) (m w : List ℕ) → ((p : code.Phase) (x : List ℕ) → lent_to a Idle x [] [] [] w ≡ commit_made (lent_to s.numbers p x [] [] [] waiting))
        → ((p : code.Phase) → lent_to b p m [] [] [] w ≡ forced_by (a.l - a.f) (lent_to a p medium [] [] [] w))
        → r ≡ record { answer = Ok a.l; state = record { numbers = b; phase = Idle } }
        → leaves (answer_of done r.answer) r.state m [] [] [] w ≡ act Commit (handed s medium [] [] [] waiting)
    unfolding performed leaves handed lent_to state_of
    commit_done a b m w p q f =
        let k = lent_to s.numbers s.phase medium [] [] [] waiting in let i = made_numbers s.numbers a waiting w p in
        rw f (ap (λ x. record { answer = done a.l; keeper = x }) (q Idle ∙ ap (forced_by (a.l - a.f)) (p s.phase medium))
        ∙ ap (λ j. record { answer = done j; keeper = forced_by (j - a.f) (commit_made k) }) i.0
        ∙ ap (λ j. record { answer = done (s.numbers.l + 1); keeper = forced_by (s.numbers.l + 1 - j) (commit_made k) }) i.1 ∙ numbered-done Commit k 0 e refl)

  -- write, abort and begin

  module _ (current first last waiting : List ℕ) where
    module _ (cell value : ℕ) (e : (v : ℕ) → 0 ≡ refusal (Write cell v) (lent_to s.numbers s.phase [] current first last waiting)) where
      pub write_done : (n at old : ℕ) (c f l w : List ℕ) → n ≡ s.numbers.l + 1 → at ≡ cell → old ≡ get_or current at 0
          → w ≡ put waiting (row_at s.numbers.slots n) (row_bytes n (entry (what.Update cell old value))) → values c f l ≡ assigned n cell value (values current first last)
          → r ≡ record { answer = Ok 0; state = record { numbers = record { cells = s.numbers.cells; slots = s.numbers.slots; h = s.numbers.h; f = s.numbers.f; l = n; o = s.numbers.o }; phase = Run } }
          → leaves (answer_of done r.answer) r.state [] c f l w ≡ act (Write cell value) (handed s [] current first last waiting)
      unfolding performed leaves handed lent_to state_of with_state with_waiting made_to append assign assigned values
      write_done n at old c f l w p a o q d x =
          rw (x, q, o, a, p)
          (ap (λ (y : Values). record { answer = done 0; keeper = lent_to (record { cells = s.numbers.cells; slots = s.numbers.slots; h = s.numbers.h; f = s.numbers.f; l = s.numbers.l + 1; o = s.numbers.o }) Run [] y.current y.first y.last (put waiting (row_at s.numbers.slots (s.numbers.l + 1)) (row_bytes (s.numbers.l + 1) (update cell (get_or current cell 0) value))) })
          (d ∙ ap (λ i. assigned i cell value (values current first last)) p)
          ∙ numbered-done (Write cell value) (lent_to s.numbers s.phase [] current first last waiting) 0 (e value) refl)

    -- the abort entry appended and the rows rolled back
    pub roll_done : (next : code.Phase) (n : ℕ) (c f l w : List ℕ) → n ≡ s.numbers.l + 1
        → w ≡ put waiting (row_at s.numbers.slots n) (row_bytes n (entry what.Abort))
        → values c f l ≡ rolled_from (entry_in w 0 s.numbers.slots s.numbers.cells) n (s.numbers.l - s.numbers.o) s.numbers.l (values current first last)
        → r ≡ record { answer = Ok 0; state = record { numbers = record { cells = s.numbers.cells; slots = s.numbers.slots; h = s.numbers.h; f = s.numbers.f; l = n; o = n }; phase = next } }
        → leaves (answer_of done r.answer) r.state [] c f l w ≡ record { answer = done 0; keeper = rolled_back (phase_of next) (handed s [] current first last waiting) }
    unfolding rolled_back leaves handed lent_to state_of with_state with_waiting made_to append values
    roll_done next n c f l w p q d x =
        let i = s.numbers.l + 1 in
        let v = put waiting (row_at s.numbers.slots i) (row_bytes i abort_entry) in
        let j = append abort_entry (handed s [] current first last waiting) in
        let to = made_to i i (phase_of next) (state_of s.numbers s.phase) in
        let d' : values c f l ≡ rolled_from (entry_in v 0 s.numbers.slots s.numbers.cells) i (s.numbers.l - s.numbers.o) s.numbers.l (values current first last) =
        d ∙ rw (q, p) in
        rw (x, q, p)
        (ap (λ (y : Values). record { answer = done 0; keeper = with_state to (with_values j y) }) d'
        ∙ ap (λ (y : Keeper). record { answer = done 0; keeper = with_state to y }) (rollback-values j i (s.numbers.l - s.numbers.o) s.numbers.l (values current first last)))

    module _ (e : 0 ≡ refusal Abort (lent_to s.numbers s.phase [] current first last waiting)) where
      pub abort_run : (o : Outcome) → is_run (phase_of s.phase) ≡ true → o ≡ record { answer = done 0; keeper = rolled_back idle (handed s [] current first last waiting) }
          → o ≡ act Abort (handed s [] current first last waiting)
      unfolding performed handed lent_to state_of
      abort_run o y q =
          q ∙ ap (λ x. record { answer = done 0; keeper = pick x (rolled_back idle (handed s [] current first last waiting)) (handed s [] current first last waiting) }) (sym y)
          ∙ numbered-done Abort (lent_to s.numbers s.phase [] current first last waiting) 0 e refl

      pub abort_idle : is_run (phase_of s.phase) ≡ false → r ≡ record { answer = Ok 0; state = record { numbers = s.numbers; phase = s.phase } }
          → leaves (answer_of done r.answer) r.state [] current first last waiting ≡ act Abort (handed s [] current first last waiting)
      unfolding performed leaves handed lent_to state_of
      abort_idle y q =
          rw q (ap (λ x. record { answer = done 0; keeper = pick x (rolled_back idle (handed s [] current first last waiting)) (handed s [] current first last waiting) }) (sym y)
          ∙ numbered-done Abort (lent_to s.numbers s.phase [] current first last waiting) 0 e refl)

    module _ (e : 0 ≡ refusal Begin (lent_to s.numbers s.phase [] current first last waiting)) where
      opened : Keeper
      opened = with_state (made_to s.numbers.l s.numbers.l run (state_of s.numbers s.phase)) (handed s [] current first last waiting)

      pub begin_run : (o : Outcome) → is_run (phase_of s.phase) ≡ true → o ≡ record { answer = done 0; keeper = rolled_back run (handed s [] current first last waiting) }
          → o ≡ act Begin (handed s [] current first last waiting)
      unfolding performed handed lent_to state_of opened
      begin_run o y q =
          q ∙ ap (λ x. record { answer = done 0; keeper = pick x (rolled_back run (handed s [] current first last waiting)) opened }) (sym y)
          ∙ numbered-done Begin (lent_to s.numbers s.phase [] current first last waiting) 0 e refl

      pub begin_idle : is_run (phase_of s.phase) ≡ false
          → r ≡ record { answer = Ok 0; state = record { numbers = record { cells = s.numbers.cells; slots = s.numbers.slots; h = s.numbers.h; f = s.numbers.f; l = s.numbers.l; o = s.numbers.l }; phase = Run } }
          → leaves (answer_of done r.answer) r.state [] current first last waiting ≡ act Begin (handed s [] current first last waiting)
      unfolding performed leaves handed lent_to state_of opened with_state made_to
      begin_idle y q =
          rw q (ap (λ x. record { answer = done 0; keeper = pick x (rolled_back run (handed s [] current first last waiting)) opened }) (sym y)
          ∙ numbered-done Begin (lent_to s.numbers s.phase [] current first last waiting) 0 e refl)
