-- The decision is that of the walk; of a head out of rule, which no walk reads, that of no entry.
use Rattle.std.proofs.Common.{arith}
use Rattle.journal.proofs.Heads.{head_fits}
use Rattle.reasons.proofs.Telling.{why-none, why_all}
use Rattle.reasons.proofs.decide.Goals as goal

pub returns-then-not-head_ok : goal.returns-then-not-head_ok
returns-then-not-head_ok c = why-none _ _ _ _ c.undone.ensures _ c.head_ok.ensures (grind arith) c.begun.ensures

pub get4-requires : goal.get4-requires
get4-requires c = let h = head_fits _ _ c.head_ok.ensures (grind arith) in omega (arith, h.long)

pub returns : goal.returns
returns c = why_all _ _ _ _ c.undone-2.ensures _ c.get4.ensures c.tell_all.ensures
