-- `console::make` makes the call that it is given: what the keeper's method ensures, framed by what it isn't lent.
use Rattle.console.proofs.Making.{force_fits, begin_made, write_made, abort_made, commit-made, read_made, force_made, cut-made, back_made, step_made, start_made}
use Rattle.console.proofs.make.Goals as goal

pub forced-requires : goal.forced-requires
forced-requires c = force_fits _ _ _ _ _ _ _ c.force.ensures.0

pub returns-in-Begin : goal.returns-in-Begin
returns-in-Begin c = rw c.in-Begin.is (begin_made _ _ _ _ _ _ _ _ _ _ _ _ _ c.begin.ensures c.plain.ensures)

pub returns-in-Write : goal.returns-in-Write
returns-in-Write c = rw c.in-Write.is (write_made _ _ _ _ _ _ _ _ _ _ _ _ _ _ _ c.write.ensures c.plain-in-Write.ensures)

pub returns-in-Abort : goal.returns-in-Abort
returns-in-Abort c = rw c.in-Abort.is (abort_made _ _ _ _ _ _ _ _ _ _ _ _ _ c.abort.ensures c.plain-in-Abort.ensures)

pub returns-in-Commit : goal.returns-in-Commit
returns-in-Commit c = rw c.in-Commit.is (commit-made _ _ _ _ _ _ _ _ _ _ _ c.commit.ensures c.plain-in-Commit.ensures)

pub returns-in-Read : goal.returns-in-Read
returns-in-Read c = rw c.in-Read.is (read_made _ _ _ _ _ _ _ _ _ _ c.read.ensures c.plain-in-Read.ensures)

pub returns-in-Force : goal.returns-in-Force
returns-in-Force c = rw c.in-Force.is (force_made _ _ _ _ _ _ _ _ _ _ c.force.ensures c.forced.ensures)

pub returns-in-Cut : goal.returns-in-Cut
returns-in-Cut c = rw c.in-Cut.is (cut-made _ _ _ _ _ _ _ _ _ _ _ c.cut.ensures c.headed.ensures)

pub returns-in-WriteBack : goal.returns-in-WriteBack
returns-in-WriteBack c = rw c.in-WriteBack.is (back_made _ _ _ _ _ _ _ _ _ _ _ _ c.write_back.ensures c.backed.ensures)

pub returns-in-Step : goal.returns-in-Step
returns-in-Step c = rw c.in-Step.is (step_made _ _ _ _ _ _ _ _ _ _ c.recovery_step.ensures c.walked.ensures)

pub returns-in-Start : goal.returns-in-Start
returns-in-Start c = rw c.in-Start.is (start_made _ _ _ _ _ _ _ _ _ _ _ _ c.recovery_start.ensures c.plain-in-Start.ensures)
