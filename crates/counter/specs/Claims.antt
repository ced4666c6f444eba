-- WHAT THE ANSWERS SAY, for a buyer: of a table t and the span of `count` cells from `lowest` on.
use Rattle.std.specs.Prelude.{ℕ, ◌+◌, ◌≤◌, ◌<◌, ◌≡◌, ◌⊎◌, ◌≢◌, true, false, List, Result, Ok, Err, get_or}
use Rattle.std.specs.Result.{result_and}
use Rattle.scope.specs.Bytes.{number_at}
use Rattle.scope.specs.Keeper.{Keeper, is_head_ok}
use Rattle.scope.specs.Refusals.{RecoveryStep}
use Rattle.scope.specs.Calls.{act}
use Rattle.scope.specs.History.{Event, History, reached, wanted}
use Rattle.scope.specs.Demands.{ended}
use Rattle.recovered.specs.Recovered.{recovered}
use Rattle.answer.specs.declared.Refusal.{Refusal}
use Rattle.answer.specs.declared.Refusal.TheVariants.{Unfit, NoCell, NoPart}
use Rattle.counter.specs.declared.Best.{Best}
use Rattle.counter.specs.declared.Hand.{Hand}
use Rattle.counter.specs.declared.Hand.TheVariants as hand
use Rattle.counter.specs.Counter.{part_number, major, minor, in_table, order_in, hand_in, cell_to_order, part_in_hand}

-- v's release is above w's: "major then minor as numbers", so 1.10 is above 1.9, and 2.0 above 1.65535
abbrev pub Above : ℕ → ℕ → Type 0
Above v w = (major w < major v) ⊎ ((major w ≡ major v) × (minor w < minor v))

abbrev pub SameRelease : ℕ → ℕ → Type 0
SameRelease v w = (major v ≡ major w) × (minor v ≡ minor w)

abbrev pub InSpan : ℕ → ℕ → ℕ → Type 0
InSpan lowest count c = (lowest ≤ c) × (c < lowest + count)

-- THE CELL TO ORDER is in the span and not empty; no cell of the span has a greater release, and none before it an equal one
pub record ToOrder (t : List ℕ) (lowest count c : ℕ) : Type 0 where
  pub in_span : InSpan lowest count c
  pub not_empty : get_or t c 0 ≢ 0
  pub none_above : (j : ℕ) → InSpan lowest count j → Above (get_or t j 0) (get_or t c 0) → ⊥
  pub none_before : (j : ℕ) → InSpan lowest count j → j < c → get_or t j 0 ≢ 0 → SameRelease (get_or t j 0) (get_or t c 0) → ⊥

abbrev pub AllEmpty : List ℕ → ℕ → ℕ → Type 0
AllEmpty t lowest count = (j : ℕ) → InSpan lowest count j → get_or t j 0 ≡ 0

-- an answer of a cell names the cell to order and its value; NoPart, which is 12, says that every cell of the span is empty
abbrev pub OrderSays : List ℕ → ℕ → ℕ → Result Best Refusal → Type 0
OrderSays t lowest count (Ok b) = ToOrder t lowest count b.cell × (b.value ≡ get_or t b.cell 0)
OrderSays t lowest count (Err r) = (r ≡ NoPart) × AllEmpty t lowest count

-- cell j of the span lists part p
pub record Lists (t : List ℕ) (lowest count p j : ℕ) : Type 0 where
  pub in_span : InSpan lowest count j
  pub not_empty : get_or t j 0 ≢ 0
  pub lists : part_number (get_or t j 0) ≡ p

-- a part in hand, beside the part of the cell to order, c: its own; another, and a cell that lists it has the same release; listed, and each cell
-- that lists it has a lower release; listed nowhere
abbrev pub HandSays : List ℕ → ℕ → ℕ → ℕ → Result Hand Refusal → Type 0
HandSays t lowest count p (Ok hand.ThatOne) = (c : ℕ) × ToOrder t lowest count c × (part_number (get_or t c 0) ≡ p)
HandSays t lowest count p (Ok hand.Equal) =
    (c : ℕ) × ToOrder t lowest count c × (part_number (get_or t c 0) ≢ p)
    × (j : ℕ) × Lists t lowest count p j × SameRelease (get_or t j 0) (get_or t c 0)
HandSays t lowest count p (Ok hand.Older) =
    (c : ℕ) × ToOrder t lowest count c × (j : ℕ) × Lists t lowest count p j
    × ((i : ℕ) → Lists t lowest count p i → Above (get_or t c 0) (get_or t i 0))
HandSays t lowest count p (Ok hand.NotListed) =
    (c : ℕ) × ToOrder t lowest count c × ((j : ℕ) → Lists t lowest count p j → ⊥)
HandSays t lowest count p (Err r) = (r ≡ NoPart) × AllEmpty t lowest count

-- on a medium: Unfit, which is 1, says that its head is out of rule; NoCell, 4, that it is in rule, and lowest plus count above N; any other
-- answer says that the span lies in the table, and what it says of it
abbrev pub OnMedium : {A : Type 0} → List ℕ → ℕ → ℕ → (Result A Refusal → Type 0) → Result A Refusal → Type 0
OnMedium m lowest count Says a =
    ((is_head_ok m ≡ false) × (a ≡ Err Unfit))
    ⊎ (((is_head_ok m ≡ true) × (number_at 4 0 m < lowest + count) × (a ≡ Err NoCell))
    ⊎ ((is_head_ok m ≡ true) × (lowest + count ≤ number_at 4 0 m) × Says a))

-- the answers for a table of n cells
unfoldable pub order_for : ℕ → List ℕ → ℕ → ℕ → Result Best Refusal
order_for n t lowest count = result_and (in_table n lowest count) (order_in t lowest count)

unfoldable pub hand_for : ℕ → List ℕ → ℕ → ℕ → ℕ → Result Hand Refusal
hand_for n t lowest count p = result_and (in_table n lowest count) (hand_in t lowest count p)

-- AFTER RECOVERY of any history's medium both answers are the ones for the table "worked out afresh from the empty table by the writes of
-- exactly those transactions whose commit entry had been stored on the medium, in the order stored"
abbrev pub AsAfresh : ℕ → ℕ → Keeper → List Event → List ℕ → Type 0
AsAfresh n c k es m =
    (lowest count : ℕ)
    → (cell_to_order m lowest count ≡ order_for n (wanted n c k es) lowest count)
    × ((p : ℕ) → part_in_hand m lowest count p ≡ hand_for n (wanted n c k es) lowest count p)

-- of a medium that is recovered after the history, and of a keeper whose recovery ends by its last step
abbrev pub RecoveredAnswers : Type 0
RecoveredAnswers =
    (n c : ℕ) (k : Keeper) (es : List Event) → History n c k es → AsAfresh n c k es (recovered (reached n c k es).medium).medium

abbrev pub EndedAnswers : Type 0
EndedAnswers =
    (n c : ℕ) (k : Keeper) (es : List Event) → History n c k es → ended (act RecoveryStep (reached n c k es)).answer ≡ true
    → AsAfresh n c k es (act RecoveryStep (reached n c k es)).keeper.medium
