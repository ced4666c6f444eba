-- `words::number` is the word's number. By the digits that remain: those from the start after 0 give what those from i on after n give.
use Prim.Native.Nat.{◌-◌}
use mathlib.Core.Path.{◌≡◌}
use Rattle.words.specs.Words.{digits}
use Rattle.words.proofs.number.Given as goal

abbrev pub invariant-loop-i : goal.invariant-loop-i
invariant-loop-i l = digits (l.fn.w.to - l.fn.w.from) l.s l.fn.w.from 0 ≡ digits (l.fn.w.to - l.i) l.s l.i l.n
