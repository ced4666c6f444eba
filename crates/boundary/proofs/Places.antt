-- Look and table view: one law for each exit; the part at the offset is the papers' part.
use Prim.Native.Nat.{ℕ, ◌+◌, ◌-◌, ◌*◌, ◌≤◌, ◌<◌}
use mathlib.Core.Path.{◌≡◌, refl, sym, ap, subst, ◌∙◌}
use mathlib.Core.Bool.{Bool, true, false}
use mathlib.Core.List.{List, []}
use native.Mathlib.Omega.{arith}
use borrow.Author.Tests.{eq-eqb, ne_eqb, le-leb, lt-leb}
use lib.Dec.{eqb}
use lib.ListN.{length, take, drop, length-drop}
use lib.Seq.{take_all}
use Rattle.scope.specs.Bytes.{number_at}
use Rattle.scope.specs.Keeper.{Keeper, is_head_ok, refusal_of, row_at}
use Rattle.scope.specs.Refusals.{Look, TableView, refusal}
use Rattle.scope.specs.Calls.{act}
use Rattle.scope.proofs.Callers.{refusal-answered}
use Rattle.answer.specs.Answer.{number_of}
use Rattle.answer.specs.declared.Refusal.{Refusal}
use Rattle.answer.proofs.Refusals.{number-above}
use Rattle.state.specs.State.{state_of}
use Rattle.medium.specs.Lent.{on_medium}
use Rattle.medium.proofs.Heads.{view_fits, view_part, view_refused}
use Rattle.state.specs.Lent.{lent_to, stateless}
use Rattle.keeper.specs.Answers.{handed}
use Rattle.keeper.specs.declared.State as code
use Rattle.keeper.proofs.LookLaws.{Looking, looking, medium-part, waiting-part}
use Rattle.boundary.specs.Boundary.{is_held_state, lent_over}
use Rattle.boundary.specs.Parts.{look_at, Looked, view_at, Viewed}
use Rattle.boundary.proofs.Crossing.{lent-state, lent_none}
use Rattle.boundary.proofs.SevenNumbers.{Holds}
use Rattle.boundary.proofs.Unsound.{zeros_refused}

module _ (n : ℕ) (k : Keeper) (x : ℕ) (e : x ≡ refusal_of (act (Look n) k).answer) (h : x ≡ 0 → ⊥) where
  refused-place : 0 ≡ look_at n k
  unfolding look_at
  refused-place = simp (ne_eqb (refusal (Look n) k) 0 (λ z. h (e ∙ refusal-answered (Look n) k ∙ z)))

  look_refused : Looked n k x 0
  look_refused = record { answers = e; place = refused-place; shows = λ z. absurd (h z) }

module _ (n : ℕ) (xs m w : List ℕ) where
  pub looked_none : is_held_state xs ≡ false → (x : ℕ) → x ≡ 1 → Looked n (lent_over xs m [] [] [] w) x 0
  looked_none p x e =
      subst (λ k. Looked n k x 0) (lent_none xs m [] [] [] w p)
      (look_refused n (stateless m [] [] [] w) x (e ∙ sym (ap (λ o. refusal_of o.answer) (zeros_refused (Look n) tt m [] [] [] w))) (λ z. omega arith))

  module _ (s : code.State) (b : Holds xs (state_of s.numbers s.phase)) where
    pub looked_refused : (why : Refusal) (x : ℕ) → x ≡ number_of why → number_of why ≡ refusal_of (act (Look n) (handed s m [] [] [] w)).answer
        → Looked n (lent_over xs m [] [] [] w) x 0
    looked_refused why x i e =
        subst (λ k. Looked n k x 0) (lent-state xs m [] [] [] w s b)
        (look_refused n (handed s m [] [] [] w) x (i ∙ e) (λ z. number-above why (sym i ∙ z)))

    module _ (e : 0 ≡ refusal_of (act (Look n) (handed s m [] [] [] w)).answer) where
      number : 0 ≡ refusal (Look n) (lent_to s.numbers s.phase m [] [] [] w)
      unfolding handed
      number = e ∙ refusal-answered (Look n) (handed s m [] [] [] w)

      pub look_facts : Looking s.numbers n m w
      look_facts = looking s n m w number

      zeroed : eqb (refusal (Look n) (handed s m [] [] [] w)) 0 ≡ true
      unfolding handed
      zeroed = eq-eqb (refusal (Look n) (lent_to s.numbers s.phase m [] [] [] w)) 0 (sym number)

      module _ (row : ℕ) (r : row ≡ row_at s.numbers.slots n) where
        pub looked_medium : n ≤ s.numbers.f → Looked n (lent_over xs m [] [] [] w) 0 (32 + row)
        unfolding look_at handed lent_to state_of
        looked_medium i =
            let u = le-leb n s.numbers.f i in
            let at = medium-part s n m w number row r i in
            let l : 32 ≡ 32 + row + 32 - (32 + row) = omega arith in
            subst (λ k. Looked n k 0 (32 + row)) (lent-state xs m [] [] [] w s b)
            (record {
              answers = e;
              place = simp (zeroed, u, r);
              shows = λ y. simp u (ap (λ x. take x (drop (32 + row) m)) l ∙ at);
            })

        pub looked_waiting : s.numbers.f < n → Looked n (lent_over xs m [] [] [] w) 0 row
        unfolding look_at handed lent_to state_of
        looked_waiting i =
            let u = lt-leb n s.numbers.f i in
            let at = waiting-part s n m w number row r i in
            let l : 32 ≡ row + 32 - row = omega arith in
            subst (λ k. Looked n k 0 row) (lent-state xs m [] [] [] w s b)
            (record {
              answers = e;
              place = simp (zeroed, u, r);
              shows = λ y. simp u (ap (λ x. take x (drop row w)) l ∙ at);
            })

-- table view

module _ (m : List ℕ) where
  pub viewed_refused : (why : Refusal) (x : ℕ) → x ≡ number_of why → number_of why ≡ refusal_of (act TableView (on_medium m)).answer → Viewed m x 0
  unfolding view_at
  viewed_refused why x i e =
      let h : x ≡ 0 → ⊥ = λ z. number-above why (sym i ∙ z) in
      record {
        answers = i ∙ e;
        place = simp (ne_eqb (refusal TableView (on_medium m)) 0 (λ z. h (i ∙ e ∙ refusal-answered TableView (on_medium m) ∙ z)));
        shows = λ z. absurd (h z);
      }

  module _ (e : 0 ≡ refusal_of (act TableView (on_medium m)).answer) where
    in_rule : is_head_ok m ≡ true
    in_rule = go (is_head_ok m) refl
      where
        go : (t : Bool) → is_head_ok m ≡ t → t ≡ true
        go true p = refl
        go false p = absurd (omega (arith, e, view_refused m p))

    pub viewable : 32 + 32 * number_at 4 4 m ≤ length m
    viewable = view_fits m in_rule

    pub viewed : (s : ℕ) → s ≡ number_at 4 4 m → Viewed m 0 (32 + 32 * s)
    unfolding view_at
    viewed s p =
        let l : length (drop (32 + 32 * s) m) ≡ length m - (32 + 32 * s) = simp length-drop in
        record {
          answers = e;
          place = simp (eq-eqb (refusal TableView (on_medium m)) 0 (sym (e ∙ refusal-answered TableView (on_medium m))), p);
          shows = λ y. sym (take_all (length m - (32 + 32 * s)) (drop (32 + 32 * s) m) (omega arith)) ∙ view_part m in_rule s p;
        }
