-- Two outcomes that the contract of an export permits are equal. Each contract equates what the call `handed_over`, all that a host has after it, with what one
-- definition gives of what was lent; look's and table view's fix the number and the place, and five calls' what is told of a row. These laws hold of any right side, and so of each contract as it
-- stands. By taking the record apart.
use Prim.Native.Nat.{ℕ}
use mathlib.Core.Path.{◌≡◌, sym, ap, ◌∙◌}
use mathlib.Core.List.{List}
use Rattle.scope.specs.Keeper.{Keeper}
use Rattle.scope.specs.Row.{Fault}
use Rattle.boundary.specs.Boundary.{Result, handed_over, Tells}
use Rattle.boundary.specs.Parts.{Looked, Viewed}

pub record Same (n n' v v' : ℕ) (s s' m m' c c' f f' l l' w w' : List ℕ) : Type 0 where
  pub number : n ≡ n'
  pub value : v ≡ v'
  pub state : s ≡ s'
  pub medium : m ≡ m'
  pub current : c ≡ c'
  pub first : f ≡ f'
  pub last : l ≡ l'
  pub waiting : w ≡ w'

pub result-same : (n n' v v' : ℕ) (s s' m m' c c' f f' l l' w w' : List ℕ) (x : Result)
    → handed_over n v s m c f l w ≡ x → handed_over n' v' s' m' c' f' l' w' ≡ x → Same n n' v v' s s' m m' c c' f f' l l' w w'
unfolding handed_over
result-same n n' v v' s s' m m' c c' f f' l l' w w' x p q =
    let e : handed_over n v s m c f l w ≡ handed_over n' v' s' m' c' f' l' w' = p ∙ sym q in
    record {
      number = ap (λ (r : Result). r.number) e;
      value = ap (λ (r : Result). r.value) e;
      state = ap (λ (r : Result). r.state) e;
      medium = ap (λ (r : Result). r.medium) e;
      current = ap (λ (r : Result). r.current) e;
      first = ap (λ (r : Result). r.first) e;
      last = ap (λ (r : Result). r.last) e;
      waiting = ap (λ (r : Result). r.waiting) e;
    }

pub looked_same : (i : ℕ) (k : Keeper) (n n' v v' : ℕ) → Looked i k n v → Looked i k n' v' → (n ≡ n') × (v ≡ v')
looked_same i k n n' v v' p q = (p.answers ∙ sym q.answers, p.place ∙ sym q.place)

pub viewed_same : (m : List ℕ) (n n' v v' : ℕ) → Viewed m n v → Viewed m n' v' → (n ≡ n') × (v ≡ v')
viewed_same m n n' v v' p q = (p.answers ∙ sym q.answers, p.place ∙ sym q.place)

pub tells-same : (w : Fault) (r r' e e' : ℕ) → Tells w r e → Tells w r' e' → (r ≡ r') × (e ≡ e')
tells-same w r r' e e' p q = (p.0 ∙ sym q.0, p.1 ∙ sym q.1)
