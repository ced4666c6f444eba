-- `words::key` is the word as one number. By the bytes that remain.
use Prim.Native.Nat.{◌-◌}
use mathlib.Core.Path.{◌≡◌}
use Rattle.words.specs.Words.{key_in}
use Rattle.words.proofs.key.Given as goal

abbrev pub invariant-loop-i : goal.invariant-loop-i
invariant-loop-i l = key_in (l.fn.w.to - l.fn.w.from) l.s l.fn.w.from 0 ≡ key_in (l.fn.w.to - l.i) l.s l.i l.k
