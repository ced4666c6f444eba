-- Two outcomes that the contract of `recovery_start`, or that of `recovery_step`, permits are equal: by `left-same`, and the inverse of what each answer
-- means. x is the outcome that the contract's equation names.
use Prim.Native.Nat.{ℕ}
use mathlib.Core.Path.{◌≡◌, refl, sym, ap, ◌∙◌}
use mathlib.Core.List.{List}
use Rattle.std.specs.Prelude.{Result, Ok, Err}
use Rattle.scope.specs.Keeper.{Outcome, Answer, done, refused, cell, head, clean, stored, part, refusal_of}
use Rattle.scope.specs.Row.{Fault}
use Rattle.answer.specs.Answer.{number_of, told_in}
use Rattle.answer.specs.declared.Refusal.{Refusal}
use Rattle.answer.proofs.Refusals.{number-above, refusal-same}
use Rattle.state.specs.declared.Numbers.{Numbers}
use Rattle.state.specs.declared.Phase.{Phase}
use Rattle.state.specs.declared.Phase.TheVariants.{Idle, Recovering}
use Rattle.state.proofs.Sames.{Same, left-same}
use Rattle.recovery.specs.Answers.{stepped, zeros, start_left, step_left}
use Rattle.recovery.specs.declared.Stepped.{Stepped}
use Rattle.recovery.specs.declared.Step as code
use Rattle.recovery.specs.declared.Step.TheVariants.{Cell, Head, Clean}

step_back : Answer → code.Step
step_back (done v) = Clean
step_back (refused n) = Clean
step_back (cell c) = Cell c
step_back head = Head
step_back clean = Clean
step_back stored = Clean
step_back (part b) = Clean

pub step_same : (a b : code.Step) → stepped a ≡ stepped b → a ≡ b
unfolding step_back
step_same a b e = sym (go a) ∙ ap step_back e ∙ go b
  where
    go : (a : code.Step) → step_back (stepped a) ≡ a
    go (Cell c) = refl
    go Head = refl
    go Clean = refl

step_not_refused : (s : code.Step) (r : Refusal) → stepped s ≡ refused (number_of r) → ⊥
step_not_refused s r e = number-above r (sym (ap refusal_of e) ∙ go s)
  where
    go : (s : code.Step) → refusal_of (stepped s) ≡ 0
    go (Cell c) = refl
    go Head = refl
    go Clean = refl

-- what is lent and handed back
pub record Buffers (m m' c c' f f' l l' w w' : List ℕ) : Type 0 where
  pub medium : m ≡ m'
  pub current : c ≡ c'
  pub first : f ≡ f'
  pub last : l ≡ l'
  pub waiting : w ≡ w'

-- a refusal is no number 0
refused_not_done : (r : Refusal) (n : ℕ) → refused (number_of r) ≡ done n → ⊥
refused_not_done r n e = number-above r (ap refusal_of e)

module _ (m m' c c' f f' l l' w w' : List ℕ) (x : Outcome) where
  buffers : {a b : Answer} {n o : Numbers} {p q : Phase} → Same a b n o p q m m' c c' f f' l l' w w' → Buffers m m' c c' f f' l l' w w'
  buffers d = record { medium = d.medium; current = d.current; first = d.first; last = d.last; waiting = d.waiting }

  pub started-same : (r t : Result Numbers Refusal) (y : Fault) → (start_left r m c f l w ≡ x) × (told_in r ≡ y)
      → (start_left t m' c' f' l' w' ≡ x) × (told_in t ≡ y)
      → (r ≡ t) × Buffers m m' c c' f f' l l' w w'
  started-same (Ok n) (Ok o) y p q =
      let d = left-same _ _ n o Recovering Recovering m m' c c' f f' l l' w w' x p.0 q.0 in
      (ap Ok d.numbers, buffers d)
  started-same (Ok n) (Err b) y p q =
      let d = left-same _ _ n zeros Recovering Idle m m' c c' f f' l l' w w' x p.0 q.0 in
      absurd (refused_not_done b 0 (sym d.answer))
  started-same (Err a) (Ok o) y p q =
      let d = left-same _ _ zeros o Idle Recovering m m' c c' f f' l l' w w' x p.0 q.0 in
      absurd (refused_not_done a 0 d.answer)
  started-same (Err a) (Err b) y p q =
      let d = left-same _ _ zeros zeros Idle Idle m m' c c' f f' l l' w w' x p.0 q.0 in
      (ap Err (refusal-same a b (ap refusal_of d.answer) (p.1 ∙ sym q.1)), buffers d)

  -- a step's refusals carry no fault: 1 and 10
  pub stepped_same : (r t : Result Stepped Refusal) (n : Numbers) (p : Phase) (y : Fault) → (step_left r n p m c f l w ≡ x) × (told_in r ≡ y) → (step_left t n p m' c' f' l' w' ≡ x) × (told_in t ≡ y)
      → (r ≡ t) × Buffers m m' c c' f f' l l' w w'
  stepped_same (Ok s) (Ok u) n p y a b =
      let d = left-same _ _ s.numbers u.numbers s.phase u.phase m m' c c' f f' l l' w w' x a.0 b.0 in
      let e = step_same s.step u.step d.answer in
      (ap Ok (λ i. record { step = e i; numbers = d.numbers i; phase = d.phase i }), buffers d)
  stepped_same (Ok s) (Err v) n p y a b = absurd (step_not_refused s.step v (left-same _ _ s.numbers n s.phase p m m' c c' f f' l l' w w' x a.0 b.0).answer)
  stepped_same (Err u) (Ok s) n p y a b = absurd (step_not_refused s.step u (sym (left-same _ _ n s.numbers p s.phase m m' c c' f f' l l' w w' x a.0 b.0).answer))
  stepped_same (Err u) (Err v) n p y a b =
      let d = left-same _ _ n n p p m m' c c' f f' l l' w w' x a.0 b.0 in
      (ap Err (refusal-same u v (ap refusal_of d.answer) (a.1 ∙ sym b.1)), buffers d)
