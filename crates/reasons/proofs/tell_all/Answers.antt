-- What remains of the walk, after what was read, says what all of it says: a turn of the loop leaves it so, and at the walk's end nothing remains.
use native.Mathlib.Omega.{arith}
use mathlib.Core.Path.{ap, ◌∙◌}
use Rattle.std.specs.Prelude.{Some}
use Rattle.reasons.proofs.Telling.{tale_starts, tale-end, tale_stopped, tale-counts, tale_goes}
use Rattle.reasons.proofs.tell_all.Goals as goal

pub loop-seen-init : goal.loop-seen-init
loop-seen-init c = tale_starts _ _ _ c.requires _ c.begun-t.ensures

pub loop-seen-smaller : goal.loop-seen-smaller
loop-seen-smaller c =
    let b = tale-counts _ _ _ c.requires _ _ _ c.loop-seen.invariant _ c.after.ensures.met _ _ (c.in-Some.is ∙ ap Some c.in-Ok.is) in
    omega (arith, b.0, b.1, b.2)

pub loop-seen-preserved : goal.loop-seen-preserved
loop-seen-preserved c =
    tale_goes _ _ _ c.requires _ _ _ c.loop-seen.invariant _ c.after.ensures.met _ _ (c.in-Some.is ∙ ap Some c.in-Ok.is)
    _ c.tell-t.ensures

pub returns-in_default-seen : goal.returns-in_default-seen
returns-in_default-seen c = tale_stopped _ _ _ c.requires _ _ _ c.loop-seen.invariant _ c.after.ensures.met _ _ c.in-Some.is c.in_default-seen.is

pub returns : goal.returns
returns c = tale-end _ _ _ c.requires _ _ _ c.loop-seen.invariant _ c.after.ensures.met c.in_default.is
