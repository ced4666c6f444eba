-- `months::Month::add_cells` meets its contract. The invariant: the cells that remain, added to what was counted, give what all give.
use mathlib.Core.Path.{◌≡◌}
use lib.ListN.{drop}
use Rattle.months.specs.Month.{tally, add_cells}
use Rattle.months.proofs.Month.add_cells.Given as goal

abbrev pub invariant-loop-value : goal.invariant-loop-value
invariant-loop-value l = add_cells l.current (tally l.initial.self) ≡ add_cells (drop l.value-index l.current) (tally l.self)
