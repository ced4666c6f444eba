-- The rows of a journal, and what the row of an entry reads as.
use Rattle.std.specs.Prelude.{ℕ, ◌+◌, ◌*◌, ◌≤◌, ◌<◌, List, length, take, drop}
use Rattle.std.proofs.Math.Option.{Option}
use Rattle.scope.specs.Row.{Entry, read_row, Reason, wrong_entry}
use Rattle.scope.specs.Keeper.{row_at}

-- C rows stand from `base` on, and n is an entry's number
pub record Rows (rows : List ℕ) (base slots n : ℕ) : Type 0 where
  pub some-slots : 0 < slots
  pub few-slots : slots ≤ 1024
  pub room : base + 32 * slots ≤ length rows
  pub numbered : 0 < n

-- what the row of entry n reads as
unfoldable pub entry_in : List ℕ → ℕ → ℕ → ℕ → ℕ → Option Entry
entry_in rows base slots cells n = read_row cells n (take 32 (drop (base + row_at slots n) rows))

-- what is wrong with it, where it must be entry n
unfoldable pub wrong_in : List ℕ → ℕ → ℕ → ℕ → ℕ → Option Reason
wrong_in rows base slots cells n = wrong_entry cells n (take 32 (drop (base + row_at slots n) rows))
