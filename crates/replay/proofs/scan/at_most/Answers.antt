-- The lesser of C and what is left up to M is the definition's choice between them.
use Rattle.std.proofs.Common.{arith}
use Rattle.scope.specs.Bytes.{max_no}
use Rattle.scope.specs.Recovery.{at_most}
use Rattle.replay.proofs.scan.at_most.Goals as goal

pub returns : goal.returns
unfolding at_most max_no
returns c = grind (arith, c.min.ensures)
