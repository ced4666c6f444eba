-- Two outcomes that the contract of a call permits are equal. Each contract equates all that its call leaves with an outcome x that its definition gives
-- of what was handed and lent; these laws hold of any x, and so of each contract as it stands. By `left-same`, and the inverse of what each answer means.
use Prim.Native.Nat.{ℕ}
use mathlib.Core.Path.{◌≡◌, refl, sym, ap, ◌∙◌}
use mathlib.Core.List.{List}
use Rattle.std.specs.Prelude.{Result, Ok, Err}
use Rattle.scope.specs.Keeper.{Outcome, Answer, done, refused, cell, head, clean, stored, part, refusal_of, value_of}
use Rattle.scope.specs.Row.{Fault}
use Rattle.answer.specs.Answer.{number_of, told_in}
use Rattle.answer.specs.declared.Refusal.{Refusal}
use Rattle.answer.proofs.Refusals.{number-above, refusal-same}
use Rattle.state.specs.Lent.{left}
use Rattle.state.proofs.Sames.{Same, left-same}
use Rattle.recovery.specs.Answers.{stepped}
use Rattle.recovery.specs.declared.Step.{Step}
use Rattle.recovery.specs.declared.Step.TheVariants.{Cell, Head, Clean}
use Rattle.recovery.proofs.Sames.{step_same}
use Rattle.keeper.specs.Answers.{answer_of, written_back, handed, leaves}
use Rattle.keeper.specs.declared.State.{State}
use Rattle.keeper.specs.declared.Outcome as code
use Rattle.keeper.specs.declared.Back as back
use Rattle.keeper.specs.declared.Back.TheVariants as backing

back_back : Answer → back.Back
back_back (done v) = backing.Clean
back_back (refused n) = backing.Clean
back_back (cell c) = backing.Clean
back_back head = backing.Clean
back_back clean = backing.Clean
back_back stored = backing.Stored
back_back (part b) = backing.Clean

back_same : (a b : back.Back) → written_back a ≡ written_back b → a ≡ b
unfolding back_back
back_same a b e = sym (go a) ∙ ap back_back e ∙ go b
  where
    go : (a : back.Back) → back_back (written_back a) ≡ a
    go backing.Stored = refl
    go backing.Clean = refl

-- what a call answers where it is done: told apart, and no refusal
module _ {T : Type 0} (f : T → Answer) (apart : (a b : T) → f a ≡ f b → a ≡ b) (granted : (v : T) → refusal_of (f v) ≡ 0) where
  not_refused : (v : T) (r : Refusal) → f v ≡ refused (number_of r) → ⊥
  not_refused v r e = number-above r (sym (ap refusal_of e) ∙ granted v)

  answer-same : (a b : Result T Refusal) → answer_of f a ≡ answer_of f b → told_in a ≡ told_in b → a ≡ b
  answer-same (Ok v) (Ok w) e t = ap Ok (apart v w e)
  answer-same (Ok v) (Err r) e t = absurd (not_refused v r e)
  answer-same (Err r) (Ok w) e t = absurd (not_refused w r (sym e))
  answer-same (Err r) (Err q) e t = ap Err (refusal-same r q (ap refusal_of e) t)

module _ (m m' c c' f f' l l' w w' : List ℕ) (x : Outcome) where
  -- the state and the buffers that two outcomes leave
  abbrev Alike : Answer → Answer → State → State → Type 0
  Alike a b s t = Same a b s.numbers t.numbers s.phase t.phase m m' c c' f f' l l' w w'

  alike : (a b : Answer) (s t : State) → leaves a s m c f l w ≡ x → leaves b t m' c' f' l' w' ≡ x → Alike a b s t
  unfolding leaves handed left
  alike a b s t p q = left-same a b s.numbers t.numbers s.phase t.phase m m' c c' f f' l l' w w' x p q

  all_same : {T : Type 0} (g : T → Answer) → ((a b : T) → g a ≡ g b → a ≡ b) → ((v : T) → refusal_of (g v) ≡ 0) → (r t : code.Outcome T) (y : Fault)
      → (leaves (answer_of g r.answer) r.state m c f l w ≡ x) × (told_in r.answer ≡ y)
      → (leaves (answer_of g t.answer) t.state m' c' f' l' w' ≡ x) × (told_in t.answer ≡ y)
      → (r ≡ t) × Alike (answer_of g r.answer) (answer_of g t.answer) r.state t.state
  all_same g apart granted r t y p q =
      let d = alike _ _ r.state t.state p.0 q.0 in let e = answer-same g apart granted r.answer t.answer d.answer (p.1 ∙ sym q.1) in
      (λ i. record { answer = e i; state = record { numbers = d.numbers i; phase = d.phase i } }, d)

  -- recovery start, begin, read, write, commit, abort, force, cut
  pub outcome_same : (r t : code.Outcome ℕ) (y : Fault) → (leaves (answer_of done r.answer) r.state m c f l w ≡ x) × (told_in r.answer ≡ y)
      → (leaves (answer_of done t.answer) t.state m' c' f' l' w' ≡ x) × (told_in t.answer ≡ y)
      → (r ≡ t) × Alike (answer_of done r.answer) (answer_of done t.answer) r.state t.state
  outcome_same = all_same done (λ a b e. ap value_of e) (λ v. refl)

  -- recovery step
  pub stepped_same : (r t : code.Outcome Step) (y : Fault) → (leaves (answer_of stepped r.answer) r.state m c f l w ≡ x) × (told_in r.answer ≡ y)
      → (leaves (answer_of stepped t.answer) t.state m' c' f' l' w' ≡ x) × (told_in t.answer ≡ y)
      → (r ≡ t) × Alike (answer_of stepped r.answer) (answer_of stepped t.answer) r.state t.state
  stepped_same = all_same stepped step_same go
    where
      go : (s : Step) → refusal_of (stepped s) ≡ 0
      go (Cell c) = refl
      go Head = refl
      go Clean = refl

  -- write-back
  pub written_back_same : (r t : code.Outcome back.Back) (y : Fault) → (leaves (answer_of written_back r.answer) r.state m c f l w ≡ x) × (told_in r.answer ≡ y)
      → (leaves (answer_of written_back t.answer) t.state m' c' f' l' w' ≡ x) × (told_in t.answer ≡ y)
      → (r ≡ t) × Alike (answer_of written_back r.answer) (answer_of written_back t.answer) r.state t.state
  written_back_same = all_same written_back back_same go
    where
      go : (b : back.Back) → refusal_of (written_back b) ≡ 0
      go backing.Stored = refl
      go backing.Clean = refl
