-- Look and table view over the boundary: the offset of the part that the papers' call hands back.
use Rattle.std.specs.Prelude.{ℕ, ◌+◌, ◌*◌, ◌≡◌, List, eqb, leb, take, drop}
use Rattle.scope.specs.Bytes.{pick, number_at}
use Rattle.scope.specs.Keeper.{Keeper, refusal_of, part_of, row_at}
use Rattle.scope.specs.Refusals.{Look, TableView, refusal}
use Rattle.scope.specs.Calls.{act}
use Rattle.medium.specs.Lent.{on_medium}

-- where entry n's 32 bytes begin, in the medium when n <= f, else in the waiting rows; 0 where look is refused
unfoldable pub look_at : ℕ → Keeper → ℕ
look_at n k =
    let row = row_at k.state.slots n in
    pick (eqb (refusal (Look n) k) 0) (pick (leb n k.state.f) (32 + row) row) 0

pub record Looked (n : ℕ) (k : Keeper) (number offset : ℕ) : Type 0 where
  pub answers : number ≡ refusal_of (act (Look n) k).answer
  pub place : offset ≡ look_at n k
  pub shows : number ≡ 0 → take 32 (drop offset (pick (leb n k.state.f) k.medium k.waiting)) ≡ part_of (act (Look n) k).answer

-- where the table begins, which is the rest of the medium; 0 where table view is refused
unfoldable pub view_at : List ℕ → ℕ
view_at m = pick (eqb (refusal TableView (on_medium m)) 0) (32 + 32 * number_at 4 4 m) 0

pub record Viewed (m : List ℕ) (number offset : ℕ) : Type 0 where
  pub answers : number ≡ refusal_of (act TableView (on_medium m)).answer
  pub place : offset ≡ view_at m
  pub shows : number ≡ 0 → drop offset m ≡ part_of (act TableView (on_medium m)).answer
