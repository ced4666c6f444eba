-- `walker::next_at` meets its contract: one case law for each way that it ends. A head in rule says how long the medium is.
use mathlib.Core.Path.{sym, ◌∙◌}
use native.Mathlib.Omega.{arith}
use Rattle.journal.proofs.Heads.{head_fits, head_rows}
use Rattle.walker.proofs.Walking.{counts-below, no_head, no_count, row_counts, wrong_counts}
use Rattle.walker.proofs.next_at.Goals as goal

pub returns-then-not-head_ok : goal.returns-then-not-head_ok
returns-then-not-head_ok c = let e = no_head c.args.medium.now c.args.n _ c.head_ok.ensures c.if-not-head_ok.true in record { met = e.0; fault = e.1 }

pub get4-slots-requires : goal.get4-slots-requires
get4-slots-requires c = let h = head_fits _ _ c.head_ok.ensures c.if-not-head_ok.false in omega (arith, h.long)

pub get4-h-requires : goal.get4-h-requires
get4-h-requires c = let h = head_fits _ _ c.head_ok.ensures c.if-not-head_ok.false in omega (arith, h.long)

pub returns-then-not-counted : goal.returns-then-not-counted
returns-then-not-counted c =
    let e = no_count c.args.medium.now c.args.n _ c.head_ok.ensures c.if-not-head_ok.false _ _ c.get4-slots.ensures c.get4-h.ensures _ c.counted.ensures c.if-not-counted.true in
    record { met = e.0; fault = e.1 }

pub get4-requires : goal.get4-requires
get4-requires c = let h = head_fits _ _ c.head_ok.ensures c.if-not-head_ok.false in omega (arith, h.long)

pub row_after-requires : goal.row_after-requires
row_after-requires c = (
  head_rows _ _ (head_fits _ _ c.head_ok.ensures c.if-not-head_ok.false) c.get4-slots.ensures,
  (counts-below _ _ _ (sym c.counted.ensures ∙ c.if-not-counted.false)).1,
)

pub returns : goal.returns
returns c = record {
  met = row_counts _ _ _ c.head_ok.ensures c.if-not-head_ok.false _ _ c.get4-slots.ensures c.get4-h.ensures _ c.counted.ensures c.if-not-counted.false _ c.get4.ensures _ c.row_after.ensures.met;
  fault = wrong_counts _ _ _ c.head_ok.ensures c.if-not-head_ok.false _ _ c.get4-slots.ensures c.get4-h.ensures _ c.counted.ensures c.if-not-counted.false _ c.get4.ensures _ c.row_after.ensures.fault;
}
