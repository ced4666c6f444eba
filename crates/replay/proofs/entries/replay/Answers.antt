-- Entries h + 1 to e replayed are replay_from: a row that isn't its entry refuses all, one more turn by `replay_again`, none left by `replay-done`.
use Rattle.std.proofs.Common.{◌∙◌, arith}
use Rattle.std.proofs.lemmas.Result.{err_from_is_err_and}
use Rattle.replay.proofs.Turns.{replay_again, replay-refused, replay-done}
use Rattle.replay.proofs.entries.replay.Goals as goal

pub returns-in_err-s : goal.returns-in_err-s
returns-in_err-s c =
    let p = err_from_is_err_and c.from_residual.result c.from_residual.ensures.1 in
    rw p.1 (replay-refused _ _ _ _ _ _ c.loop-n.invariant.remains (omega arith) _ c.replay_entry.ensures.1 _ c.in_err-s.was)

pub loop-n-preserved : goal.loop-n-preserved
loop-n-preserved c =
    let i = c.loop-n.invariant in
    let next = c.next_row-at.ensures _ (omega arith) i.place in
    record {
      lengths = c.replay_entry.auto.current ∙ i.lengths;
      remains = replay_again _ _ _ _ _ _ i.remains (omega arith) _ c.replay_entry.ensures.1 _ c.in_ok-s.was _ c.replay_entry.ensures.0;
      place = next.0;
      inside = next.1;
    }

pub returns : goal.returns
returns c = replay-done _ _ _ _ _ _ c.loop-n.invariant.remains (omega arith) _ c.undo.ensures
