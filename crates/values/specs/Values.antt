-- What recovery makes of a medium's cells, without a store: the start's answer, and where it is done the current values.
use Rattle.std.specs.Prelude.{ℕ, ◌+◌, ◌-◌, ◌≡◌, List, Result, Ok, Err, Some, None}
use Rattle.std.specs.declared.option.Option as code
use Rattle.scope.specs.Keeper.{Answer, done, refused}
use Rattle.std.proofs.Math.Option.{Option, none, some}
use Rattle.scope.specs.Bytes.{pick, number_at}
use Rattle.scope.specs.Recovery.{rows_of, any_holds, at_most}
use Rattle.recovered.specs.Recovered.{started}
use Rattle.values.specs.declared.Unread.{Unread}
use Rattle.values.specs.declared.Unread.TheVariants.{Head, Row}

-- THE VALUES that recovery gives the cells
unfoldable pub values_of : List ℕ → List ℕ
values_of m = (started m).keeper.current

-- the number that a start refuses it with
abbrev pub number_of : Unread → ℕ
number_of Head = 1
number_of Row = 2

abbrev pub answer_of : Result Unit Unread → Answer
answer_of (Ok u) = done 0
answer_of (Err x) = refused (number_of x)

pub record Values (m : List ℕ) (r : Result Unit Unread) (current : List ℕ) : Type 0 where
  pub answer : answer_of r ≡ (started m).answer
  pub done : r ≡ Ok tt → current ≡ values_of m

-- the last entry that a walk meets, or none where a row does not read or is a hole
abbrev pub upto : code.Option ℕ → Option ℕ
upto (Some e) = some e
upto None = none

-- the same of a walk that meets no entry after n
unfoldable pub end_after : List ℕ → ℕ → Option ℕ
end_after m n =
    let c = number_at 4 4 m in let h = number_at 4 8 m in
    pick (any_holds (rows_of c m) (at_most c h - (n - h) - 1) (n + 1)) none (some n)
