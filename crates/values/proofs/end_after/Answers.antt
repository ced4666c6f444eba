-- `values::end_after` meets its contract. No row may still count, or those that may are looked at.
use mathlib.Core.Path.{refl, ◌∙◌}
use native.Mathlib.Omega.{arith}
use Rattle.recovery.proofs.Recovering.{head_fits}
use Rattle.replay.proofs.Turns.{most_fits}
use Rattle.values.proofs.Lasting.{end-done, end-hole, end-last, same_most, same_rows}
use Rattle.values.proofs.end_after.Goals as goal

pub get4-slots-requires : goal.get4-slots-requires
get4-slots-requires c = let h = head_fits _ _ refl c.requires.1.0 in omega (arith, h.long)

pub returns-then-most-met : goal.returns-then-most-met
returns-then-most-met c =
    let p = c.requires in
    let most = same_most _ _ _ _ c.at_most-most.ensures c.get4-slots.ensures p.0 in
    end-done _ _ (omega (arith, most, p.0))

pub overflow_add-n : goal.overflow_add-n
overflow_add-n c =
    let a = c.args in
    omega (arith, most_fits c.get4-slots.result a.h (omega arith), c.at_most-most.ensures)

pub any_holds-requires : goal.any_holds-requires
any_holds-requires c =
    let a = c.args in
    let h = head_fits _ _ refl c.requires.1.0 in
    let four = c.get4-slots.ensures in (
      record { some-slots = omega (arith, h.slots≥, four); few-slots = omega (arith, h.slots≤, four); room = omega (arith, h.long, four); numbered = omega arith },
      omega (arith, most_fits c.get4-slots.result a.h (omega arith), c.at_most-most.ensures),
    )

pub returns-then-any_holds : goal.returns-then-any_holds
returns-then-any_holds c =
    let most = same_most _ _ _ _ c.at_most-most.ensures c.get4-slots.ensures c.requires.0 in
    end-hole _ _ _ _ _ (omega (arith, most, c.requires.0)) refl (c.any_holds.ensures ∙ same_rows _ _ _ _ c.get4-slots.ensures) c.if-any_holds.true

pub returns : goal.returns
returns c =
    let most = same_most _ _ _ _ c.at_most-most.ensures c.get4-slots.ensures c.requires.0 in
    end-last _ _ _ _ _ (omega (arith, most, c.requires.0)) refl (c.any_holds.ensures ∙ same_rows _ _ _ _ c.get4-slots.ensures) c.if-any_holds.false
