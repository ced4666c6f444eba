-- `lines::decimal_of` meets its contract. Invariant: the bytes that remain, after the number so far, give what all give.
use Rattle.std.proofs.Common.{◌≡◌, ◌<◌, drop}
use Rattle.lines.specs.Lines.{decimal_of, decimal_from}
use Rattle.lines.proofs.decimal_of.Given as goal

abbrev pub invariant-loop-byte : goal.invariant-loop-byte
invariant-loop-byte l = (l.n < 18446744073709551616) × (decimal_of l.line ≡ decimal_from l.n (drop l.byte-index l.line))
