-- `left` tells apart all that a call can leave: two outcomes that one equation permits have the same answer, state and buffers. By the inverse of what a
-- phase means.
use Prim.Native.Nat.{ℕ}
use mathlib.Core.Path.{◌≡◌, refl, sym, ap, ◌∙◌}
use mathlib.Core.List.{List}
use Rattle.scope.specs.Keeper.{Phase, idle, run, recovering, Outcome, Answer}
use Rattle.state.specs.State.{phase_of, state_of}
use Rattle.state.specs.Lent.{lent_to, left}
use Rattle.state.specs.declared.Numbers.{Numbers}
use Rattle.state.specs.declared.Phase as code
use Rattle.state.specs.declared.Phase.TheVariants.{Idle, Run, Recovering}

phase_back : Phase → code.Phase
phase_back idle = Idle
phase_back run = Run
phase_back recovering = Recovering

phase-same : (p q : code.Phase) → phase_of p ≡ phase_of q → p ≡ q
unfolding phase_back
phase-same p q e = sym (go p) ∙ ap phase_back e ∙ go q
  where
    go : (p : code.Phase) → phase_back (phase_of p) ≡ p
    go Idle = refl
    go Run = refl
    go Recovering = refl

-- what two outcomes have in common: everything
pub record Same (a b : Answer) (n o : Numbers) (p q : code.Phase) (m m' c c' f f' l l' w w' : List ℕ) : Type 0 where
  pub answer : a ≡ b
  pub numbers : n ≡ o
  pub phase : p ≡ q
  pub medium : m ≡ m'
  pub current : c ≡ c'
  pub first : f ≡ f'
  pub last : l ≡ l'
  pub waiting : w ≡ w'

pub left-same : (a b : Answer) (n o : Numbers) (p q : code.Phase) (m m' c c' f f' l l' w w' : List ℕ) (x : Outcome)
    → left a n p m c f l w ≡ x → left b o q m' c' f' l' w' ≡ x → Same a b n o p q m m' c c' f f' l l' w w'
unfolding left lent_to state_of
left-same a b n o p q m m' c c' f f' l l' w w' x u v =
    let e : left a n p m c f l w ≡ left b o q m' c' f' l' w' = u ∙ sym v in
    record {
      answer = ap (λ (z : Outcome). z.answer) e;
      numbers = λ i. (let s = (e i).keeper.state in record { cells = s.cells; slots = s.slots; h = s.h; f = s.f; l = s.l; o = s.o });
      phase = phase-same p q (ap (λ (z : Outcome). z.keeper.state.phase) e);
      medium = ap (λ (z : Outcome). z.keeper.medium) e;
      current = ap (λ (z : Outcome). z.keeper.current) e;
      first = ap (λ (z : Outcome). z.keeper.first) e;
      last = ap (λ (z : Outcome). z.keeper.last) e;
      waiting = ap (λ (z : Outcome). z.keeper.waiting) e;
    }
