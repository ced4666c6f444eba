-- The state and its seven numbers: one law for each exit of the functions between them, and that each gives the other back.
use Prim.Native.Nat.{ℕ, zero, suc, ◌≤◌, ◌<◌}
use mathlib.Core.Path.{◌≡◌, refl, sym, ap, subst, ◌∙◌}
use mathlib.Core.Bool.{Bool, true, false}
use mathlib.Core.List.{List, [], ◌∷◌}
use mathlib.Core.Option.{none, some}
use native.Mathlib.Omega.{arith}
use borrow.Author.Tests.{eq-eqb, ne_eqb, lt-leb, eqb-true, leb-true}
use lib.Dec.{eqb, leb}
use lib.ListN.{length, get_or, set}
use Rattle.scope.specs.Bytes.{pick}
use Rattle.scope.specs.Keeper.{Phase, idle, run, recovering, State, made_to}
use Rattle.state.specs.State.{phase_of, state_of}
use Rattle.state.specs.declared.Phase as code
use Rattle.state.proofs.Facts.{and_left, and_right}
use Rattle.boundary.specs.Boundary.{phase_no, phase_in, numbers_of, is_held_state, seven, state_held, state_in}
use Rattle.boundary.specs.Held.{phase_numbered, made, committed, HasRest}

picked : {A : Type 0} (t : Bool) (x y : A) → some y ≡ pick t (some x) none → (t ≡ true) × (y ≡ x)
picked true x y e = (refl, cc)
picked false x y e = let z : ◌≡◌ {A = ℕ} 0 1 = cc in absurd (omega arith)

unpicked : {A : Type 0} (t : Bool) (x : A) → none ≡ pick t (some x) none → t ≡ false
unpicked true x e = let z : ◌≡◌ {A = ℕ} 0 1 = cc in absurd (omega arith)
unpicked false x e = refl

-- a slice as the code reads it: seven numbers, the last one of a phase, and else no state

pub no-phase : (n : ℕ) → 2 < n → none ≡ phase_numbered n
unfolding phase_numbered
no-phase n h = simp (lt-leb n 2 h)

module _ (s : List ℕ) where
  pub other_length : (length s ≡ 7 → ⊥) → none ≡ state_held s
  unfolding state_held is_held_state
  other_length h = simp (ne_eqb (length s) 7 h)

  module _ (h : length s ≡ 7) where
    pub other-phase : none ≡ phase_numbered (get_or s 6 0) → none ≡ state_held s
    unfolding state_held is_held_state phase_numbered
    other-phase e = simp (eq-eqb (length s) 7 h, unpicked (leb (get_or s 6 0) 2) (phase_in (get_or s 6 0)) e)

    pub a-state : (p : code.Phase) → some (phase_of p) ≡ phase_numbered (get_or s 6 0)
        → some (state_of (record { cells = get_or s 0 0; slots = get_or s 1 0; h = get_or s 2 0; f = get_or s 3 0; l = get_or s 4 0; o = get_or s 5 0 }) p) ≡ state_held s
    unfolding state_held is_held_state phase_numbered seven state_of
    a-state p e =
        let w = picked (leb (get_or s 6 0) 2) (phase_in (get_or s 6 0)) (phase_of p) e in rw w.1 (simp (eq-eqb (length s) 7 h, w.0))

-- what the code's answer says of the slice

pub is_long : (s : List ℕ) → is_held_state s ≡ true → length s ≡ 7
unfolding is_held_state
is_long s i = eqb-true (length s) 7 (and_left (eqb (length s) 7) (leb (get_or s 6 0) 2) i)

pub record Holds (s : List ℕ) (x : State) : Type 0 where
  pub is_state : is_held_state s ≡ true
  pub is_seven : length s ≡ 7
  pub read : x ≡ seven s

module _ (s : List ℕ) where
  pub holds-none : none ≡ state_held s → is_held_state s ≡ false
  unfolding state_held
  holds-none e = unpicked (is_held_state s) (seven s) e

  pub holds-state : (x : State) → some x ≡ state_held s → Holds s x
  unfolding state_held
  holds-state x e = let w = picked (is_held_state s) (seven s) x e in record { is_state = w.0; is_seven = is_long s w.0; read = w.1 }

-- seven numbers, one by one

as_seven : (s : List ℕ) → length s ≡ 7 → s ≡ get_or s 0 0 ∷ get_or s 1 0 ∷ get_or s 2 0 ∷ get_or s 3 0 ∷ get_or s 4 0 ∷ get_or s 5 0 ∷ get_or s 6 0 ∷ []
as_seven [] n = absurd (omega arith)
as_seven (x ∷ []) n = absurd (omega arith)
as_seven (x ∷ x2 ∷ []) n = absurd (omega arith)
as_seven (x ∷ x2 ∷ x3 ∷ []) n = absurd (omega arith)
as_seven (x ∷ x2 ∷ x3 ∷ x4 ∷ []) n = absurd (omega arith)
as_seven (x ∷ x2 ∷ x3 ∷ x4 ∷ x5 ∷ []) n = absurd (omega arith)
as_seven (x ∷ x2 ∷ x3 ∷ x4 ∷ x5 ∷ x6 ∷ []) n = absurd (omega arith)
as_seven (x ∷ x2 ∷ x3 ∷ x4 ∷ x5 ∷ x6 ∷ x7 ∷ []) n = refl
as_seven (x ∷ x2 ∷ x3 ∷ x4 ∷ x5 ∷ x6 ∷ x7 ∷ x8 ∷ xs) n = absurd (omega arith)

pub stored-seven : (s : List ℕ) → length s ≡ 7 → (a b c d e f g : ℕ)
    → set (set (set (set (set (set (set s 0 a) 1 b) 2 c) 3 d) 4 e) 5 f) 6 g ≡ a ∷ b ∷ c ∷ d ∷ e ∷ f ∷ g ∷ []
stored-seven s n a b c d e f g = ap (λ x. set (set (set (set (set (set (set x 0 a) 1 b) 2 c) 3 d) 4 e) 5 f) 6 g) (as_seven s n)

-- a state's numbers are read as that state

pub read_back : (s : State) → state_in (numbers_of s) ≡ s
unfolding state_in numbers_of is_held_state seven phase_in
read_back s = go s.cells s.slots s.h s.f s.l s.o s.phase
  where
    go : (cells slots h f l o : ℕ) (p : Phase)
        → state_in (numbers_of (record { cells = cells; slots = slots; h = h; f = f; l = l; o = o; phase = p }))
        ≡ record { cells = cells; slots = slots; h = h; f = f; l = l; o = o; phase = p }
    go cells slots h f l o idle = refl
    go cells slots h f l o run = refl
    go cells slots h f l o recovering = refl

-- and a slice that holds a state is its numbers

phase_back : (n : ℕ) → n ≤ 2 → phase_no (phase_in n) ≡ n
unfolding phase_in
phase_back zero h = refl
phase_back (suc zero) h = refl
phase_back (suc (suc zero)) h = refl
phase_back (suc (suc (suc n))) h = absurd (omega arith)

numbers_back : (s : List ℕ) → length s ≡ 7 → get_or s 6 0 ≤ 2 → numbers_of (seven s) ≡ s
unfolding numbers_of seven
numbers_back s n h =
    ap (λ y. get_or s 0 0 ∷ get_or s 1 0 ∷ get_or s 2 0 ∷ get_or s 3 0 ∷ get_or s 4 0 ∷ get_or s 5 0 ∷ y ∷ []) (phase_back (get_or s 6 0) h) ∙ sym (as_seven s n)

pub put_back : (s : List ℕ) → is_held_state s ≡ true → numbers_of (seven s) ≡ s
unfolding is_held_state
put_back s i = numbers_back s (is_long s i) (leb-true (get_or s 6 0) 2 (and_right (eqb (length s) 7) (leb (get_or s 6 0) 2) i))

-- so it is enough to put the numbers that a call changed
pub put_changed : (changed : State → State → State) (put : List ℕ → List ℕ) (s : List ℕ) (t : State) → HasRest changed s t
    → put (numbers_of (seven s)) ≡ numbers_of (changed t (seven s)) → put s ≡ numbers_of t
put_changed changed put s t h e = ap put (sym (put_back s h.is_state)) ∙ e ∙ sym (ap numbers_of h.rest)

-- a commit's: f is put, and then what making an entry changes
pub committed-rest : (s : List ℕ) (t : State) → HasRest committed s t → HasRest made (set s 3 t.f) t
unfolding is_held_state seven made_to
committed-rest s t h =
    let e = as_seven s (is_long s h.is_state) in
    subst (λ x. HasRest made (set x 3 t.f) t) (sym e) (record { is_state = ap is_held_state (sym e) ∙ h.is_state; rest = h.rest })
