-- A step that stores a cell leaves the steps that remain, another ends them, and none is left at the last turn.
use Rattle.std.proofs.Common.{◌-◌, ◌+◌, arith, rules, refl, sym, ◌∙◌}
use Rattle.recovered.proofs.Settled.{steps_again, steps_stop, steps-end, no_cell}
use Rattle.recovered.proofs.settle.Goals as goal

pub returns-in_default : goal.returns-in_default
returns-in_default c =
    let l = c.loop in
    steps_stop l.state.numbers l.state.numbers l.state.phase l.state.phase l.medium _ c.args.current.now _ c.in_default.ensures.0 (c.args.turns - l.counter) (c.args.turns - (l.counter + 1)) (omega arith) refl ∙ sym l.invariant

pub returns-in_default-step : goal.returns-in_default-step
returns-in_default-step c =
    let l = c.loop in
    let s = c.in-Ok.stepped in
    steps_stop l.state.numbers s.numbers l.state.phase s.phase l.medium _ c.args.current.now _ c.in-Ok.ensures.0 (c.args.turns - l.counter) (c.args.turns - (l.counter + 1)) (omega arith) (no_cell s.step (search rules)) ∙ sym l.invariant

pub loop-preserved : goal.loop-preserved
loop-preserved c =
    let l = c.loop in
    let s = c.in-Ok.stepped in
    l.invariant ∙ steps_again l.state.numbers s.numbers l.state.phase s.phase l.medium _ c.args.current.now _ c.in-Ok.ensures.0 (c.args.turns - l.counter) (c.args.turns - (l.counter + 1)) (omega arith) (grind arith)

pub returns : goal.returns
returns c = steps-end _ (c.args.turns - c.loop.counter) (omega arith) ∙ sym c.loop.invariant
