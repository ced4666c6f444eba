-- `words::place` is the first place that passes, or the one after the last. By the bytes that remain, for every test that says what the closure answers.
use Prim.Native.Nat.{ℕ, ◌-◌, ◌<◌, ◌≤◌, max}
use mathlib.Core.Bool.{Bool}
use mathlib.Core.Path.{◌≡◌}
use Rattle.words.specs.Words.{place_in}
use Rattle.words.proofs.place.Given as goal

abbrev pub invariant-loop-i : goal.invariant-loop-i
invariant-loop-i g l =
    goal.F-IsAlwaysCallable g l.passes
    × (l.i ≤ max l.fn.from l.fn.to)
    × ((t : ℕ → Bool) → ((b : ℕ) (r : Bool) → b < 256 → goal.F-post g l.passes b r → r ≡ t b)
    → place_in t (l.fn.to - l.fn.from) l.s l.fn.from ≡ place_in t (l.fn.to - l.i) l.s l.i)
