-- What storing rows wants of its numbers and buffers, which no refusal leaves.
use Rattle.std.specs.Prelude.{ℕ, ◌+◌, ◌*◌, ◌≤◌, ◌<◌, List, length}
use Rattle.state.specs.declared.Numbers.{Numbers}

pub record Storing (n : Numbers) (medium waiting : List ℕ) : Type 0 where
  pub some-slots : 0 < n.slots
  pub few-slots : n.slots ≤ 1024
  pub in_medium : 32 + 32 * n.slots ≤ length medium
  pub in_rows : 32 * n.slots ≤ length waiting
