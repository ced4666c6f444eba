-- What rolling back wants of its numbers and buffers, which no refusal leaves.
use Rattle.std.specs.Prelude.{ℕ, ◌*◌, ◌≤◌, ◌<◌, ◌≡◌, List, length}
use Rattle.state.specs.declared.Numbers.{Numbers}

pub record Rolling (n : Numbers) (current first last waiting : List ℕ) : Type 0 where
  pub some-slots : 0 < n.slots
  pub few-slots : n.slots ≤ 1024
  pub next : n.l < 4294967295
  pub in_current : length current ≡ n.cells
  pub in_first : length first ≡ n.cells
  pub in_last : length last ≡ n.cells
  pub in_rows : length waiting ≡ 32 * n.slots
