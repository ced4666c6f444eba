-- `months::Month::add_cell` meets its contract: one case law for a release that has a place, one for a new one, one for the others.
use mathlib.Core.Path.{sym, ap, ◌∙◌}
use native.Mathlib.Omega.{arith}
use borrow.Author.Tests.{eqb-true, eqb-false}
use lib.ListN.{length, get_or, set}
use Rattle.months.specs.Releases.{in_use}
use Rattle.months.proofs.Adding.{again, blank, more_saturating, cell-counted, cell-new, cell_other}
use Rattle.months.proofs.Month.add_cell.Goals as goal

pub returns-in-Some : goal.returns-in-Some
returns-in-Some c =
    let xs = in_use c.args.self.now.met in
    let i = c.in-Some.place in
    let e = c.as_slice.ensures.value in
    let cells = more_saturating _ _ c.saturating_add-self.ensures (omega arith) in
    let now = c.replace.ensures ∙ ap (set xs i) (c.again-counted.ensures ∙ ap (λ zs. again (get_or zs i blank)) e) in
    cell-counted _ _ (λ z. omega arith) _ c.release_of-release.ensures _ cells _ (sym c.in-Some.ensures) (omega (arith, ap length e)) _ now

pub returns-in-None : goal.returns-in-None
returns-in-None c =
    let cells = more_saturating _ _ c.saturating_add-self.ensures (omega arith) in
    let others = more_saturating _ _ c.saturating_add-self-in-None.ensures (omega arith) in
    let full = eqb-true _ 64 (sym c.if-is_full.ensures.value) in
    cell_other _ _ (λ z. omega arith) _ c.release_of-release.ensures _ cells (sym c.in-None.ensures) (omega arith) _ others

pub returns-in-None-2 : goal.returns-in-None-2
returns-in-None-2 c =
    let cells = more_saturating _ _ c.saturating_add-self.ensures (omega arith) in
    let room = eqb-false _ 64 (sym c.if-is_full.ensures.value) in
    cell-new _ _ (λ z. omega arith) _ c.release_of-release.ensures _ cells (sym c.in-None-2.ensures) (omega (arith, room)) _ c.push.ensures
