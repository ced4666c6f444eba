-- What recovery's answers mean, and what a start and a step leave.
use Rattle.std.specs.Prelude.{ℕ, List, Result, Ok, Err}
use Rattle.scope.specs.Keeper.{Answer, Outcome, done, refused, cell, head, clean}
use Rattle.answer.specs.Answer.{number_of}
use Rattle.answer.specs.declared.Refusal.{Refusal}
use Rattle.state.specs.Lent.{left}
use Rattle.state.specs.declared.Numbers.{Numbers}
use Rattle.state.specs.declared.Phase.{Phase}
use Rattle.state.specs.declared.Phase.TheVariants.{Idle, Recovering}
use Rattle.recovery.specs.declared.Step.{Step}
use Rattle.recovery.specs.declared.Step.TheVariants.{Cell, Head, Clean}
use Rattle.recovery.specs.declared.Stepped.{Stepped}

abbrev pub stepped : Step → Answer
stepped (Cell c) = cell c
stepped Head = head
stepped Clean = clean

-- the numbers of the state that a refused start hands back
abbrev pub zeros : Numbers
zeros = record { cells = 0; slots = 0; h = 0; f = 0; l = 0; o = 0 }

-- medium, current values, `first`, `last` and waiting rows, as a start leaves them, and its answer
abbrev pub start_left : Result Numbers Refusal → List ℕ → List ℕ → List ℕ → List ℕ → List ℕ → Outcome
start_left (Ok n) medium current first last waiting = left (done 0) n Recovering medium current first last waiting
start_left (Err r) medium current first last waiting = left (refused (number_of r)) zeros Idle medium current first last waiting

-- the same of a step on a state, which a refused step leaves
abbrev pub step_left : Result Stepped Refusal → Numbers → Phase → List ℕ → List ℕ → List ℕ → List ℕ → List ℕ → Outcome
step_left (Ok s) n p medium current first last waiting = left (stepped s.step) s.numbers s.phase medium current first last waiting
step_left (Err r) n p medium current first last waiting = left (refused (number_of r)) n p medium current first last waiting
