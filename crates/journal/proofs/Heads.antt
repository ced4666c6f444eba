-- What a head in rule says of the medium's sizes: its rows stand where the journal reads them.
use Prim.Native.Nat.{ℕ, ◌+◌, ◌*◌, ◌≤◌}
use mathlib.Core.Path.{◌≡◌, sym, ◌∙◌}
use mathlib.Core.Bool.{Bool, true, false, ◌&&◌}
use mathlib.Core.List.{List}
use native.Mathlib.Omega.{arith}
use borrow.Author.Tests.{leb-true, eqb-true}
use lib.ListN.{length}
use Rattle.scope.specs.Bytes.{number_at}
use Rattle.scope.specs.Keeper.{in_range, medium_length, is_head_ok}
use Rattle.journal.specs.Entries.{Rows}

pub record Head (m : List ℕ) : Type 0 where
  pub cells≤ : number_at 4 0 m ≤ 1024
  pub slots≥ : 4 ≤ number_at 4 4 m
  pub slots≤ : number_at 4 4 m ≤ 1024
  pub long : length m ≡ 32 + 32 * number_at 4 4 m + 8 * number_at 4 0 m

left : (a b : Bool) → a && b ≡ true → a ≡ true
left true b p = λ i. true
left false b p = p

right : (a b : Bool) → a && b ≡ true → b ≡ true
right true b p = p
right false true p = λ i. true
right false false p = p

ruleset tests-true = (left, right, leb-true, eqb-true)

pub head_fits : (m : List ℕ) (t : Bool) → t ≡ is_head_ok m → t ≡ true → Head m
unfolding is_head_ok in_range medium_length
head_fits m t e p =
    let q = sym e ∙ p in
    record { cells≤ = search tests-true; slots≥ = search tests-true; slots≤ = search tests-true; long = search tests-true }

pub head_rows : (m : List ℕ) (slots : ℕ) → Head m → slots ≡ number_at 4 4 m → Rows m 32 slots 1
head_rows m slots h p =
    record { some-slots = omega (arith, h.slots≥); few-slots = omega (arith, h.slots≤); room = omega (arith, h.long); numbered = omega arith }
