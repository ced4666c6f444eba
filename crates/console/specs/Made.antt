-- A call that is made: which of the papers' calls it is, what its `Did` says of the answer, and where its stores stand.
use Rattle.std.specs.Prelude.{ℕ, zero, suc, ◌+◌, ◌-◌, ◌≡◌, List, Option, Some, None, ltb, take, drop}
use Rattle.scope.specs.Bytes.{pick, put}
use Rattle.scope.specs.Keeper.{Keeper, Answer, done, refused, cell, head, clean, stored, part, value_of, row_at, cell_at}
use Rattle.scope.specs.Refusals.{Call, Format, RecoveryStart, RecoveryStep, Begin, Commit, Abort, Force, TableView, Read, WriteBack, Cut, Look, Write, told}
use Rattle.scope.specs.Calls.{act}
use Rattle.answer.specs.Answer.{told_in}
use Rattle.keeper.specs.Answers.{answer_of}
use Rattle.keeper.specs.declared.Outcome.{Outcome}
use Rattle.console.specs.declared.Call as console
use Rattle.console.specs.declared.Call.TheVariants as calls
use Rattle.console.specs.declared.Said.{Said}
use Rattle.console.specs.declared.Said.TheVariants as said
use Rattle.console.specs.declared.Place.{Place}
use Rattle.console.specs.declared.Did.{Did}

abbrev pub call_of : console.Call → Call
call_of calls.Begin = Begin
call_of (calls.Write c v) = Write c v
call_of calls.Abort = Abort
call_of calls.Commit = Commit
call_of (calls.Read c) = Read c
call_of calls.Force = Force
call_of (calls.Cut p) = Cut p
call_of (calls.WriteBack c) = WriteBack c
call_of calls.Step = RecoveryStep
call_of calls.Start = RecoveryStart

-- what is meant by what an accepted call says
abbrev pub said_of : Said → Answer
said_of (said.Plain v) = done v
said_of said.Stored = stored
said_of said.Clean = clean
said_of (said.Cell c) = cell c
said_of said.Head = head

abbrev pub head_place : Place
head_place = record { at = 0; size = 32 }

abbrev pub row_place : ℕ → ℕ → Place
row_place slots n = record { at = 32 + row_at slots n; size = 32 }

abbrev pub cell_place : ℕ → ℕ → Place
cell_place slots c = record { at = cell_at slots c; size = 8 }

-- where the store of an answer stands: force's row, cut's head, write-back's cell, the cell or the head of a recovery step
abbrev pub force_place : ℕ → Answer → Option Place
force_place slots a = pick (ltb 0 (value_of a)) (Some (row_place slots (value_of a))) None

abbrev pub cut_place : Answer → Option Place
cut_place (done v) = Some head_place
cut_place (refused n) = None
cut_place stored = None
cut_place clean = None
cut_place (cell c) = None
cut_place head = None
cut_place (part b) = None

abbrev pub back_place : ℕ → ℕ → Answer → Option Place
back_place slots c stored = Some (cell_place slots c)
back_place slots c (done v) = None
back_place slots c (refused n) = None
back_place slots c clean = None
back_place slots c (cell d) = None
back_place slots c head = None
back_place slots c (part b) = None

abbrev pub step_place : ℕ → Answer → Option Place
step_place slots (cell c) = Some (cell_place slots c)
step_place slots head = Some head_place
step_place slots (done v) = None
step_place slots (refused n) = None
step_place slots stored = None
step_place slots clean = None
step_place slots (part b) = None

abbrev pub place_of : Call → ℕ → Answer → Option Place
place_of (Format n c) slots a = None
place_of RecoveryStart slots a = None
place_of RecoveryStep slots a = step_place slots a
place_of Begin slots a = None
place_of Commit slots a = None
place_of Abort slots a = None
place_of Force slots a = force_place slots a
place_of TableView slots a = None
place_of (Read c) slots a = None
place_of (WriteBack c) slots a = back_place slots c a
place_of (Cut p) slots a = cut_place a
place_of (Look n) slots a = None
place_of (Write c v) slots a = None

-- WHAT IS SAID of a call's outcome, by what its answers mean
pub record Says {T : Type 0} (f : T → Answer) (out : Outcome T) (p : Option Place) (d : Did) : Type 0 where
  pub state : d.state ≡ out.state
  pub answer : answer_of said_of d.said ≡ answer_of f out.answer
  pub fault : told_in d.said ≡ told_in out.answer
  pub place : d.place ≡ p

-- the rows of the `count` entries after n brought from a medium, one after the other
unfoldable pub rows_brought : ℕ → ℕ → ℕ → List ℕ → List ℕ → List ℕ
rows_brought slots zero n from m = m
rows_brought slots (suc count) n from m =
    rows_brought slots count (n + 1) from (put m (32 + row_at slots (n + 1)) (take 32 (drop (32 + row_at slots (n + 1)) from)))

-- the bytes at a place brought from a medium
abbrev pub part_brought : Option Place → List ℕ → List ℕ → List ℕ
part_brought None from m = m
part_brought (Some p) from m = put m p.at (take p.size (drop p.at from))

-- WHAT IS BROUGHT to the medium before a call gives the medium after it: the bytes of its place; commit's rows, f+1 to its number, in that order
abbrev pub brought : Call → Keeper → Answer → Option Place → List ℕ → List ℕ
brought (Format n c) k a p m = part_brought p m k.medium
brought RecoveryStart k a p m = part_brought p m k.medium
brought RecoveryStep k a p m = part_brought p m k.medium
brought Begin k a p m = part_brought p m k.medium
brought Commit k a p m = rows_brought k.state.slots (value_of a - k.state.f) k.state.f m k.medium
brought Abort k a p m = part_brought p m k.medium
brought Force k a p m = part_brought p m k.medium
brought TableView k a p m = part_brought p m k.medium
brought (Read c) k a p m = part_brought p m k.medium
brought (WriteBack c) k a p m = part_brought p m k.medium
brought (Cut q) k a p m = part_brought p m k.medium
brought (Look n) k a p m = part_brought p m k.medium
brought (Write c v) k a p m = part_brought p m k.medium

-- THE CALL, MADE on what was lent before it
pub record Made (a : Call) (before : Keeper) (d : Did) (after : Keeper) : Type 0 where
  -- the state and every byte of what was lent are as the papers' call leaves them
  pub keeper : after ≡ (act a before).keeper
  -- the answer is its answer
  pub said : answer_of said_of d.said ≡ (act a before).answer
  -- beside 2 and 7 it tells what is wrong with the lowest bad row
  pub tells : told_in d.said ≡ told a before
  -- the place is that of its one store; commit, which stores rows, names none
  pub place : d.place ≡ place_of a before.state.slots (act a before).answer
  -- what is brought from the medium after the call makes it of the one before
  pub brings : after.medium ≡ brought a before (act a before).answer d.place after.medium
