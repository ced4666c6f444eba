-- `text::Text::put_cells` meets its contract. Invariant: the text of the first i cells stands after what stood there.
use Rattle.std.proofs.Common.{◌≡◌, ◌++◌, take}
use Rattle.scope.specs.Recovery.{table_of}
use Rattle.text.specs.Text.{cells_text}
use Rattle.text.proofs.Text.put_cells.Given as goal

abbrev pub invariant-loop-i : goal.invariant-loop-i
invariant-loop-i g l = l.self ≡ l.initial.self ++ cells_text 0 (take l.i (table_of l.cells l.slots l.medium))
