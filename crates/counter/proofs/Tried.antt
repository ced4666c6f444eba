-- The counter's answers on small tables, computed: 1.9 and 1.10 side by side, 2.0 above 1.65535, the lowest among equals, each answer for a part
-- in hand, and both sides of each refusal.
use Prim.Native.Nat.{ℕ, ◌+◌, ◌*◌}
use mathlib.Core.Path.{◌≡◌, refl}
use mathlib.Core.List.{List, [], ◌∷◌, ◌++◌}
use lib.ListN.{replicate}
use Rattle.scope.specs.Bytes.{bytes_of, number_of, number_at}
use Rattle.scope.specs.Keeper.{is_head_ok, in_range, medium_length, head_bytes, cells_of}
use Rattle.scope.specs.Recovery.{table_of}
use Rattle.std.specs.Prelude.{Result, Ok, Err}
use Rattle.answer.specs.declared.Refusal.{Refusal}
use Rattle.answer.specs.declared.Refusal.TheVariants.{Unfit, NoCell, NoPart}
use Rattle.counter.specs.declared.Best.{Best}
use Rattle.counter.specs.declared.Hand.{Hand}
use Rattle.counter.specs.declared.Hand.TheVariants as hand
use Rattle.counter.specs.Counter.{part_number, major, minor, release, counts, better, best_with_cell, best_from, best_in, table_in, span_refusal, order_in, cell_to_order, against, hand_in, part_in_hand}

-- part, major, minor
abbrev value : ℕ → ℕ → ℕ → ℕ
value part major minor = part + 4294967296 * major + 281474976710656 * minor

abbrev cell : ℕ → ℕ → Result Best Refusal
cell c v = Ok (record { cell = c; value = v })

abbrev is : Hand → Result Hand Refusal
is h = Ok h

-- the garage's gearbox unit: 1.9 in one cell, 1.10 in the next
abbrev garage : List ℕ
garage = value 40017 1 9 ∷ value 40052 1 10 ∷ 0 ∷ []

pub garage_orders : order_in garage 0 3 ≡ cell 1 (value 40052 1 10)
unfolding order_in best_in best_from best_with_cell better counts release major minor
garage_orders = refl

-- the two parts in hand, and one that nobody lists
pub garage_hands : hand_in garage 0 3 40052 ∷ hand_in garage 0 3 40017 ∷ hand_in garage 0 3 7 ∷ hand_in garage 0 1 40017 ∷ hand_in garage 0 1 40052 ∷ hand_in garage 2 1 40017 ∷ []
    ≡ is hand.ThatOne ∷ is hand.Older ∷ is hand.NotListed ∷ is hand.ThatOne ∷ is hand.NotListed ∷ Err NoPart ∷ []
unfolding hand_in against best_in best_from best_with_cell better counts part_number release major minor
garage_hands = refl

-- an empty cell, 1.65535, 2.0 twice, part 0 with a release, and a part in several cells
abbrev mixed : List ℕ
mixed = 0 ∷ value 5 1 65535 ∷ value 6 2 0 ∷ value 0 2 0 ∷ value 5 2 0 ∷ value 8 0 0 ∷ []

pub mixed_orders : order_in mixed 0 6 ∷ order_in mixed 0 2 ∷ order_in mixed 3 3 ∷ order_in mixed 5 1 ∷ order_in mixed 0 1 ∷ order_in mixed 6 0 ∷ []
    ≡ cell 2 (value 6 2 0) ∷ cell 1 (value 5 1 65535) ∷ cell 3 (value 0 2 0) ∷ cell 5 (value 8 0 0) ∷ Err NoPart ∷ Err NoPart ∷ []
unfolding order_in best_in best_from best_with_cell better counts release major minor
mixed_orders = refl

-- 5 is in cell 1, older, and in cell 4, equal; 0 is listed by cell 3 and not by the empty one
pub mixed_hands : hand_in mixed 0 6 5 ∷ hand_in mixed 0 4 5 ∷ hand_in mixed 0 6 0 ∷ hand_in mixed 0 3 0 ∷ hand_in mixed 0 6 8 ∷ hand_in mixed 0 6 4294967301 ∷ []
    ≡ is hand.Equal ∷ is hand.Older ∷ is hand.Equal ∷ is hand.NotListed ∷ is hand.Older ∷ is hand.NotListed ∷ []
unfolding hand_in against best_in best_from best_with_cell better counts part_number release major minor
mixed_hands = refl

-- a medium with the garage's two cells, and both sides of each refusal: an empty span at N is 12, one cell more is 4, and so is a sum past
-- 32 bits; 1 is said before 4
abbrev medium : List ℕ
medium = head_bytes 2 4 0 ++ replicate 128 0 ++ bytes_of 8 (value 40017 1 9) ++ bytes_of 8 (value 40052 1 10)

pub medium_orders : cell_to_order medium 0 2 ∷ cell_to_order medium 0 1 ∷ cell_to_order medium 2 0 ∷ cell_to_order medium 1 2 ∷ cell_to_order medium 3 0 ∷ cell_to_order medium 4294967295 2 ∷ cell_to_order (7 ∷ medium) 3 0 ∷ []
    ≡ cell 1 (value 40052 1 10) ∷ cell 0 (value 40017 1 9) ∷ Err NoPart ∷ Err NoCell ∷ Err NoCell ∷ Err NoCell ∷ Err Unfit ∷ []
unfolding cell_to_order span_refusal is_head_ok in_range medium_length number_at number_of table_in table_of cells_of head_bytes bytes_of order_in best_in best_from best_with_cell better counts release major minor
medium_orders = refl

pub medium_hands : part_in_hand medium 0 2 40017 ∷ part_in_hand medium 2 0 40017 ∷ part_in_hand medium 1 2 40017 ∷ part_in_hand [] 1 2 40017 ∷ []
    ≡ is hand.Older ∷ Err NoPart ∷ Err NoCell ∷ Err Unfit ∷ []
unfolding part_in_hand span_refusal is_head_ok in_range medium_length number_at number_of table_in table_of cells_of head_bytes bytes_of hand_in against best_in best_from best_with_cell better counts part_number release major minor
medium_hands = refl
