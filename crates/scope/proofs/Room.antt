-- Rows 5 and 6 of the table are the paper's: "begin in idle, l-h = C; begin in run, or write, l-h > C-2" and "begin in idle, l = M; begin in run,
-- or write, l > M-2", in every sound state. By what a sound state's numbers are.
use Prim.Native.Nat.{◌+◌, ◌-◌, ◌<◌}
use mathlib.Core.Path.{◌≡◌}
use mathlib.Core.Bool.{Bool, true}
use native.Mathlib.Omega.{arith}
use borrow.Author.Tests.{ltb-true, lt-ltb}
use Rattle.scope.specs.Bytes.{max_no}
use Rattle.scope.specs.Keeper.{idle, run, State, sound}
use Rattle.scope.specs.Refusals.{full, used_up}
use Rattle.scope.proofs.Sound.{Sound, sound_facts}

-- a test holds exactly when
abbrev pub When : Bool → Type 0 → Type 0
When b P = (b ≡ true → P) × (P → b ≡ true)

module _ (s : State) (ok : sound s ≡ true) where
  S : Sound s
  S = sound_facts s ok

  pub full-idle : s.phase ≡ idle → When (full s) (s.l - s.h ≡ s.slots)
  unfolding full
  full-idle e =
      rw e (
        (λ q. omega (arith, S.room, ltb-true s.slots (s.l - s.h + 0 + 1) q)),
        λ q. lt-ltb s.slots (s.l - s.h + 0 + 1) (omega (arith, q)),
      )

  pub full-run : s.phase ≡ run → When (full s) (s.slots - 2 < s.l - s.h)
  unfolding full
  full-run e =
      rw e (
        (λ q. omega (arith, S.slots≥, ltb-true s.slots (s.l - s.h + 1 + 1) q)),
        λ q. lt-ltb s.slots (s.l - s.h + 1 + 1) (omega (arith, q)),
      )

  pub used_up-idle : s.phase ≡ idle → When (used_up s) (s.l ≡ 4294967295)
  unfolding used_up max_no
  used_up-idle e =
      rw e (
        (λ q. omega (arith, S.l≤M, ltb-true 4294967295 (s.l + 0 + 1) q)),
        λ q. lt-ltb 4294967295 (s.l + 0 + 1) (omega (arith, q)),
      )

  pub used_up-run : s.phase ≡ run → When (used_up s) (4294967295 - 2 < s.l)
  unfolding used_up max_no
  used_up-run e =
      rw e (
        (λ q. omega (arith, ltb-true 4294967295 (s.l + 1 + 1) q)),
        λ q. lt-ltb 4294967295 (s.l + 1 + 1) (omega (arith, q)),
      )
