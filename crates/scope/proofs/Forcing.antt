-- What so many of force's steps leave: f is so many higher, the medium keeps its length, and all else stays. By induction on the steps.
use Prim.Native.Nat.{ℕ, zero, suc, ◌+◌}
use mathlib.Core.Path.{◌≡◌, refl, ap, ◌∙◌}
use native.Mathlib.Omega.{arith}
use Rattle.scope.specs.Keeper.{State, Keeper, with_state, with_medium, stored_next}
use Rattle.scope.specs.Calls.{forced, forced_by}

-- so many entries more stored
abbrev pub stored_by : ℕ → State → State
stored_by count s = record { cells = s.cells; slots = s.slots; h = s.h; f = s.f + count; l = s.l; o = s.o; phase = s.phase }

-- all but medium and f
pub record Beside (count : ℕ) (k k' : Keeper) : Type 0 where
  pub state≡ : k'.state ≡ stored_by count k.state
  pub current≡ : k'.current ≡ k.current
  pub first≡ : k'.first ≡ k.first
  pub last≡ : k'.last ≡ k.last
  pub waiting≡ : k'.waiting ≡ k.waiting

pub beside : (count : ℕ) (k : Keeper) → Beside count k (forced_by count k)
unfolding forced_by forced with_state with_medium stored_next
beside zero k =
    record {
      state≡ = ap (λ f. record { cells = k.state.cells; slots = k.state.slots; h = k.state.h; f = f; l = k.state.l; o = k.state.o; phase = k.state.phase }) (omega arith);
      current≡ = refl;
      first≡ = refl;
      last≡ = refl;
      waiting≡ = refl;
    }
beside (suc count) k =
    let r = beside count (forced k) in let e : k.state.f + 1 + count ≡ k.state.f + suc count = omega arith in
    record {
      state≡ = r.state≡ ∙ ap (λ f. record { cells = k.state.cells; slots = k.state.slots; h = k.state.h; f = f; l = k.state.l; o = k.state.o; phase = k.state.phase }) e;
      current≡ = r.current≡;
      first≡ = r.first≡;
      last≡ = r.last≡;
      waiting≡ = r.waiting≡;
    }
