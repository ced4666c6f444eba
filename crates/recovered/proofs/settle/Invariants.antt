-- `recovered::settle` meets its contract. Invariant: the steps that remain, from here, give what all give from the start.
use Rattle.std.proofs.Common.{◌≡◌, ◌-◌, []}
use Rattle.state.specs.Lent.{lent_to}
use Rattle.state.specs.declared.Phase.TheVariants.{Recovering}
use Rattle.recovered.specs.Recovered.{steps}
use Rattle.recovered.proofs.settle.Given as goal

abbrev pub invariant-loop : goal.invariant-loop
invariant-loop l =
    steps l.turns (lent_to l.fn.numbers Recovering l.initial.medium l.current [] [] []) ≡ steps (l.turns - l.counter) (lent_to l.state.numbers l.state.phase l.medium l.current [] [] [])
