-- THE COUNTER SCREEN (ticket 1): for a control unit, a span of cells, the cell to order; and for a part number in hand, what it is.
use Rattle.std.specs.Prelude.{ℕ, zero, suc, ◌+◌, ◌*◌, ◌/◌, ◌%◌, Bool, not, ◌&&◌, List, Option, Some, None, Result, Ok, Err, ok_or, ltb, leb, eqb, get_or}
use Rattle.std.specs.Result.{result_and}
use Rattle.scope.specs.Bytes.{pick, number_at}
use Rattle.scope.specs.Keeper.{is_head_ok}
use Rattle.scope.specs.Recovery.{table_of}
use Rattle.answer.specs.declared.Refusal.{Refusal}
use Rattle.answer.specs.declared.Refusal.TheVariants.{Unfit, NoCell, NoPart}
use Rattle.counter.specs.declared.Hand.{Hand}
use Rattle.counter.specs.declared.Hand.TheVariants as hand
use Rattle.counter.specs.declared.Best.{Best}

-- a cell's value: part number (4 bytes), release major (2) and minor (2)
unfoldable pub part_number : ℕ → ℕ
part_number v = v % 4294967296

unfoldable pub major : ℕ → ℕ
major v = v / 4294967296 % 65536

unfoldable pub minor : ℕ → ℕ
minor v = v / 281474976710656 % 65536

-- a release as one number. "major then minor as numbers": the laws `above_release` and `release_above`
unfoldable pub release : ℕ → ℕ
release v = 65536 * major v + minor v

-- which cells count: those that are not empty, or of these the ones that list a part ("empty cells list none")
unfoldable pub counts : Option ℕ → ℕ → Bool
counts None v = not (eqb v 0)
counts (Some p) v = not (eqb v 0) && eqb (part_number v) p

abbrev pub best_cell : ℕ → ℕ → Option Best
best_cell c v = Some (record { cell = c; value = v })

-- one cell more that counts: "of greatest release, .. the lowest among equals"
unfoldable pub better : ℕ → ℕ → Option Best → Option Best
better c v (Some b) = pick (ltb (release b.value) (release v)) (best_cell c v) (Some b)
better c v None = best_cell c v

unfoldable pub best_with_cell : Option ℕ → ℕ → ℕ → Option Best → Option Best
best_with_cell s c v b = pick (counts s v) (better c v b) b

-- the best of `count` cells of a table from cell c on, by rising number, after the best so far
unfoldable pub best_from : Option ℕ → List ℕ → ℕ → ℕ → Option Best → Option Best
best_from s t c zero b = b
best_from s t c (suc count) b = best_from s t (c + 1) count (best_with_cell s c (get_or t c 0) b)

unfoldable pub best_in : Option ℕ → List ℕ → ℕ → ℕ → Option Best
best_in s t lowest count = best_from s t lowest count None

-- the table on a medium, as its head says
unfoldable pub table_in : List ℕ → List ℕ
table_in m = table_of (number_at 4 0 m) (number_at 4 4 m) m

-- a span of a table of n cells; NoCell, which is 4: lowest plus count is above n
abbrev pub in_table : ℕ → ℕ → ℕ → Result Unit Refusal
in_table n lowest count = pick (leb (lowest + count) n) (Ok tt) (Err NoCell)

-- on a medium: Unfit, which is 1: the head is out of rule, as table view says; then as above
unfoldable pub span_refusal : List ℕ → ℕ → ℕ → Result Unit Refusal
span_refusal m lowest count = pick (is_head_ok m) (in_table (number_at 4 0 m) lowest count) (Err Unfit)

-- THE CELL TO ORDER in a table, and on a medium. NoPart, which is 12: every cell of the span is empty
unfoldable pub order_in : List ℕ → ℕ → ℕ → Result Best Refusal
order_in t lowest count = ok_or (best_in None t lowest count) NoPart

unfoldable pub cell_to_order : List ℕ → ℕ → ℕ → Result Best Refusal
cell_to_order m lowest count = result_and (span_refusal m lowest count) (order_in (table_in m) lowest count)

-- a part that is not the one to order, whose value is v: by the best of the cells that list it
unfoldable pub against : ℕ → Option Best → Hand
against v (Some b) = pick (ltb (release b.value) (release v)) hand.Older hand.Equal
against v None = hand.NotListed

abbrev pub handed : ℕ → Option Best → Option Best → Result Hand Refusal
handed p (Some b) listed = Ok (pick (eqb (part_number b.value) p) hand.ThatOne (against b.value listed))
handed p None listed = Err NoPart

-- WHAT A PART IN HAND IS: "that one, its equal in release, older or not listed; a part in several cells counts by its greatest release"
unfoldable pub hand_in : List ℕ → ℕ → ℕ → ℕ → Result Hand Refusal
hand_in t lowest count p = handed p (best_in None t lowest count) (best_in (Some p) t lowest count)

unfoldable pub part_in_hand : List ℕ → ℕ → ℕ → ℕ → Result Hand Refusal
part_in_hand m lowest count p = result_and (span_refusal m lowest count) (hand_in (table_in m) lowest count p)
