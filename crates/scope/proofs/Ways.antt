-- "Ways it has gone wrong", each at a history in which it would show, and what a keeper that gives one answer to every read would say: the answers
-- and the tables that these definitions give. By computation, so that a wrong definition is refused here, whatever the laws about it say.
use Prim.Native.Nat.{ℕ}
use mathlib.Core.Path.{◌≡◌, refl}
use mathlib.Core.List.{List, [], ◌∷◌, ◌++◌, map}
use Rattle.scope.specs.Bytes.{max_no, bytes_of, number_of, number_at, put}
use Rattle.scope.specs.Row.{row_bytes, entry_of, read_row}
use Rattle.scope.specs.Keeper.{Answer, done, refused, cell, head, in_range, medium_length, phase_ok, sound, row_at, cell_at, waiting_row, medium_row, head_bytes, is_head_ok, cells_of, with_state, with_medium, with_waiting, made_to, stored_next, dropped_to, first_mark, assign, append, store_cell, store_head}
use Rattle.scope.specs.Refusals.{RecoveryStart, RecoveryStep, Begin, Commit, Abort, Force, Read, WriteBack, Cut, Write, lent, lent_start, unfit, not_updates, not_entries, full, used_up, any_first, tests, refusal}
use Rattle.scope.specs.Recovery.{any_holds, entries_from, at_most, journal, undo, replay, table_of, differing, all_updates, all_entries, restore, rollback}
use Rattle.scope.specs.Calls.{commit_made, forced, forced_by, step_at, rolled_back, cleaned, act, performed}
use Rattle.scope.specs.History.{Event, call, happen, answers, after, reached, formatted, wanted}
use Rattle.scope.proofs.Cases.{A, B, any_keeper, power_lost}

-- recovered after format, and a transaction of one write, committed
abbrev opened : List Event
opened = call RecoveryStart ∷ call RecoveryStep ∷ []

abbrev booked : ℕ → ℕ → List Event
booked c v = call Begin ∷ call (Write c v) ∷ call Commit ∷ []

-- power is lost, and recovery follows
abbrev restarted : List Event
restarted = power_lost ∷ call RecoveryStart ∷ []

abbrev three_steps : List Event
three_steps = call RecoveryStep ∷ call RecoveryStep ∷ call RecoveryStep ∷ []

-- what recovery answers, the table after each of its steps, and the table worked out afresh
pub record Way : Type 0 where
  pub story : List Event
  pub says : List Answer
  pub tables : List (List ℕ)
  pub wants : List ℕ

abbrev table_after : List Event → List ℕ
table_after es = table_of 2 4 (reached 2 4 any_keeper es).medium

abbrev pub told : Way → List Answer × List (List ℕ) × List ℕ
told w =
    let es = opened ++ (w.story ++ restarted) in (
      answers three_steps (reached 2 4 any_keeper es),
      table_after es ∷ table_after (es ++ (call RecoveryStep ∷ [])) ∷ table_after (es ++ three_steps) ∷ [],
      wanted 2 4 any_keeper es,
    )

abbrev pub expected : Way → List Answer × List (List ℕ) × List ℕ
expected w = (w.says, w.tables, w.wants)

abbrev both : ℕ → ℕ → List ℕ
both a b = a ∷ b ∷ []

abbrev pub ways : List Way
ways =
    -- any order but entry number: 1.9, then 1.10, never written back
    record {
      story = booked 0 A ++ booked 0 B;
      says = cell 0 ∷ head ∷ refused 10 ∷ [];
      tables = both 0 0 ∷ both B 0 ∷ both B 0 ∷ [];
      wants = both B 0;
    }
    -- committed transactions only: A is dropped from the journal, B stored before its transaction aborted
    ∷ record {
      story = booked 0 A ++ (call (WriteBack 0) ∷ call (Cut 2) ∷ call Begin ∷ call (Write 0 B) ∷ call Force ∷ call (WriteBack 0) ∷ call Abort ∷ call Force ∷ []);
      says = cell 0 ∷ head ∷ refused 10 ∷ [];
      tables = both B 0 ∷ both A 0 ∷ both A 0 ∷ [];
      wants = both A 0;
    }
    -- undoing in rising order: a cell written twice, stored, and its transaction left without an end
    ∷ record {
      story = call Begin ∷ call (Write 0 A) ∷ call (Write 0 B) ∷ call Force ∷ call Force ∷ call (WriteBack 0) ∷ [];
      says = cell 0 ∷ head ∷ refused 10 ∷ [];
      tables = both B 0 ∷ both 0 0 ∷ both 0 0 ∷ [];
      wants = both 0 0;
    }
    -- write-back judged by `first`: B's entry is not stored, and A's would then be cut away
    ∷ record {
      story = booked 0 A ++ (call Begin ∷ call (Write 0 B) ∷ call (WriteBack 0) ∷ call (Cut 2) ∷ []);
      says = cell 0 ∷ head ∷ refused 10 ∷ [];
      tables = both 0 0 ∷ both A 0 ∷ both A 0 ∷ [];
      wants = both A 0;
    }
    -- the head before the last differing cell: two cells differ, and each step stores one
    ∷ record {
      story = call Begin ∷ call (Write 0 A) ∷ call (Write 1 B) ∷ call Commit ∷ [];
      says = cell 0 ∷ cell 1 ∷ head ∷ [];
      tables = both 0 0 ∷ both A 0 ∷ both A B ∷ [];
      wants = both A B;
    }
    -- cutting just after an update: its transaction's abort is not stored
    ∷ record {
      story = call Begin ∷ call (Write 0 A) ∷ call Force ∷ call (WriteBack 0) ∷ call (Write 1 B) ∷ call Abort ∷ call (Cut 1) ∷ [];
      says = cell 0 ∷ head ∷ refused 10 ∷ [];
      tables = both A 0 ∷ both 0 0 ∷ both 0 0 ∷ [];
      wants = both 0 0;
    }
    ∷ []

pub gone_right : map told ways ≡ map expected ways
unfolding max_no bytes_of number_of number_at put row_bytes entry_of read_row in_range medium_length phase_ok sound row_at cell_at waiting_row medium_row head_bytes is_head_ok cells_of with_state with_medium with_waiting made_to stored_next dropped_to first_mark assign append store_cell store_head entries_from any_holds at_most journal undo replay table_of differing all_updates all_entries restore rollback lent lent_start unfit not_updates not_entries full used_up any_first tests refusal performed commit_made forced forced_by step_at rolled_back cleaned act happen answers after
gone_right = refl

-- what a client hears of two cells: each its own value, and after an abort the value before
abbrev reading : List Event
reading =
    call Begin ∷ call (Write 0 A) ∷ call (Write 1 B) ∷ call (Read 0) ∷ call (Read 1) ∷ call Abort ∷ call Begin ∷ call (Read 1) ∷ []

pub reads-apart : answers reading (after opened (formatted 2 4 any_keeper)) ≡ done 0 ∷ done 0 ∷ done 0 ∷ done A ∷ done B ∷ done 0 ∷ done 0 ∷ done 0 ∷ []
unfolding max_no bytes_of number_of number_at put row_bytes entry_of read_row in_range medium_length phase_ok sound row_at cell_at waiting_row medium_row head_bytes is_head_ok cells_of with_state with_medium with_waiting made_to stored_next dropped_to first_mark assign append store_cell store_head entries_from any_holds at_most journal undo replay table_of differing all_updates all_entries restore rollback lent lent_start unfit not_updates not_entries full used_up any_first tests refusal performed commit_made forced forced_by step_at rolled_back cleaned act happen answers after
reads-apart = refl
