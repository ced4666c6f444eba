-- Entries n to s + 1 undone are undo_from: one more turn by `undo_again`, none left by `undo-done`.
use Rattle.std.proofs.Common.{◌∙◌, arith}
use Rattle.replay.proofs.Turns.{undo_again, undo-done}
use Rattle.replay.proofs.entries.undo.Goals as goal

pub loop-k-preserved : goal.loop-k-preserved
loop-k-preserved c = (
  c.undo_entry.auto.current ∙ c.loop-k.invariant.0,
  undo_again _ _ _ _ _ c.loop-k.invariant.1 (omega arith) _ c.undo_entry.ensures,
)

pub returns : goal.returns
returns c = undo-done _ _ _ _ _ c.loop-k.invariant.1 (omega arith)
