-- A row without its number ends the journal or is a hole, one that does not read is named, and another is counted: the law of each turn.
use Rattle.std.proofs.Common.{◌+◌, ◌-◌, arith}
use Rattle.journal.proofs.RowPlaces.{number-from, read_from, wrong_from}
use Rattle.journal.proofs.Meanings.{is_nothing, is_some}
use Rattle.replay.proofs.Turns.{most_fits, scan_starts, scan_done, scan_stop, scan_bad, scan_again, fault_starts, fault-done, fault_stop, fault_bad, fault_again}
use Rattle.replay.proofs.scan.scan.Goals as goal

pub overflow_add-end : goal.overflow_add-end
overflow_add-end c = omega (arith, most_fits c.args.slots c.args.h (omega arith))

pub loop-n-init : goal.loop-n-init
loop-n-init c =
    let most = c.at_most.ensures in
    record {
      last = scan_starts _ _ _ _ _ (omega (arith, most));
      fault = fault_starts _ _ _ _ _ (omega (arith, most));
      place = c.first_row-at.ensures.0;
      inside = c.first_row-at.ensures.1;
    }

pub returns-then-get4-next-clause-entries : goal.returns-then-get4-next-clause-entries
returns-then-get4-next-clause-entries c =
    let i = c.loop-n.invariant in
    let number = number-from _ _ _ _ i.place _ c.get4.ensures in
    scan_stop _ _ _ _ _ _ i.last _ (omega arith) (λ z. omega (arith, number)) _ c.end_or_hole.ensures.entries

pub returns-then-get4-next-clause-fault : goal.returns-then-get4-next-clause-fault
returns-then-get4-next-clause-fault c =
    let i = c.loop-n.invariant in
    let number = number-from _ _ _ _ i.place _ c.get4.ensures in
    fault_stop _ _ _ _ _ _ i.fault _ (omega arith) (λ z. omega (arith, number)) _ c.end_or_hole.ensures.fault

pub returns-in-Err-clause-entries : goal.returns-in-Err-clause-entries
returns-in-Err-clause-entries c =
    let i = c.loop-n.invariant in
    let number = number-from _ _ _ _ i.place _ c.get4.ensures in
    scan_bad _ _ _ _ _ _ i.last (c.args.h + c.at_most.result - (c.loop-n.n + 1)) (omega arith) (omega (arith, number)) (is_nothing _ _ (read_from _ _ _ _ i.place _ _ c.entry_from.ensures.entry) _ c.in-Err.is)

pub returns-in-Err-clause-fault : goal.returns-in-Err-clause-fault
returns-in-Err-clause-fault c =
    let i = c.loop-n.invariant in
    let number = number-from _ _ _ _ i.place _ c.get4.ensures in
    fault_bad _ _ _ _ _ _ i.fault (c.args.h + c.at_most.result - (c.loop-n.n + 1)) (omega arith) (omega (arith, number)) _ (wrong_from _ _ _ _ i.place _ _ c.entry_from.ensures.reason) _ c.in-Err.is

pub loop-n-preserved : goal.loop-n-preserved
loop-n-preserved c =
    let i = c.loop-n.invariant in
    let number = number-from _ _ _ _ i.place _ c.get4.ensures in
    let next = c.next_row-at.ensures _ (omega arith) i.place in
    record {
      last = scan_again _ _ _ _ _ _ i.last _ (omega arith) (omega (arith, number)) _ (is_some _ _ (read_from _ _ _ _ i.place _ _ c.entry_from.ensures.entry) _ c.in_default.is);
      fault = fault_again _ _ _ _ _ _ i.fault _ (omega arith) (omega (arith, number)) _ (wrong_from _ _ _ _ i.place _ _ c.entry_from.ensures.reason) _ c.in_default.is;
      place = next.0;
      inside = next.1;
    }

pub returns-clause-entries : goal.returns-clause-entries
returns-clause-entries c = scan_done _ _ _ _ _ _ c.loop-n.invariant.last (omega arith) _ (omega arith)

pub returns-clause-fault : goal.returns-clause-fault
returns-clause-fault c = fault-done _ _ _ _ _ _ c.loop-n.invariant.fault (omega arith)
