-- The entries after n have the last entry of all: a turn of the loop leaves it so, a row that does not read has none, and the walk's end says which.
use mathlib.Core.Path.{sym, ap, ◌∙◌}
use native.Mathlib.Omega.{arith}
use Rattle.std.specs.Prelude.{Some}
use Rattle.scope.specs.Bytes.{number_at}
use Rattle.scope.specs.Recovery.{journal}
use Rattle.replay.specs.Replay.{last_of}
use Rattle.values.proofs.Lasting.{last_starts, last-malformed, last_end, last_again, last-counts}
use Rattle.values.proofs.last_met.Goals as goal

pub loop-seen-init : goal.loop-seen-init
loop-seen-init c = (omega (arith, c.requires.0), last_starts _ c.requires.1 _ c.requires.0)

pub loop-seen-smaller : goal.loop-seen-smaller
loop-seen-smaller c =
    let w = last-counts _ c.requires.1 _ _ c.loop-seen.invariant.0 c.loop-seen.invariant.1 _ c.after.ensures.met _ _ (c.in-Some.is ∙ ap Some c.in-Ok.is) in
    omega (arith, w.0, w.1, w.2)

pub loop-seen-preserved : goal.loop-seen-preserved
loop-seen-preserved c =
    let w = last-counts _ c.requires.1 _ _ c.loop-seen.invariant.0 c.loop-seen.invariant.1 _ c.after.ensures.met _ _ (c.in-Some.is ∙ ap Some c.in-Ok.is) in
    (omega (arith, w.0, w.1), last_again _ c.requires.1 _ _ c.loop-seen.invariant.0 c.loop-seen.invariant.1 _ c.after.ensures.met _ _ (c.in-Some.is ∙ ap Some c.in-Ok.is))

pub returns-in_default-seen : goal.returns-in_default-seen
returns-in_default-seen c =
    let m = c.args.medium.now in
    last-malformed _ c.requires.1 _ _ c.loop-seen.invariant.0 c.loop-seen.invariant.1 _ c.after.ensures.met _ (c.in-Some.is ∙ ap Some c.in_default-seen.is)
    ∙ sym (ap (λ x. last_of x (journal (number_at 4 0 m) (number_at 4 4 m) x m)) c.requires.0)

pub returns : goal.returns
returns c =
    let m = c.args.medium.now in
    last_end _ c.requires.1 _ _ c.loop-seen.invariant.0 c.loop-seen.invariant.1 _ c.after.ensures.met c.in_default.is _ c.end_after.ensures
    ∙ sym (ap (λ x. last_of x (journal (number_at 4 0 m) (number_at 4 4 m) x m)) c.requires.0)
