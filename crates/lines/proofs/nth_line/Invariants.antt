-- `lines::nth_line` meets its contract. Invariant: the line of the number that is left, from here, is the one asked for.
use Rattle.std.proofs.Common.{◌≡◌, ◌-◌}
use Rattle.lines.specs.Lines.{nth_line, nth_from}
use Rattle.lines.proofs.nth_line.Given as goal

abbrev pub invariant-loop : goal.invariant-loop
invariant-loop l = nth_line l.k l.s ≡ nth_from (l.k - l.counter) l.at l.s
