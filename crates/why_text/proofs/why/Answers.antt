-- `why_text::why` meets its contract: one law for each refusal before recovery, in the papers' order, and one for a cell of the table.
use Prim.Native.Nat.{◌*◌}
use mathlib.Core.Path.{refl, sym, ap, ◌∙◌}
use native.Mathlib.Omega.{arith}
use borrow.Author.Rules.{rules}
use Rattle.text.specs.Text.{line, refused_key}
use Rattle.recovered.specs.Recovered.{head_number}
use Rattle.recovered.proofs.Settled.{head-number, head_numbers_fit, length_zeros, zeroed}
use Rattle.why_text.proofs.Asked.{asked_headless, asked_nothing, asked_beyond, asked_cell}
use Rattle.why_text.proofs.why.Goals as goal

pub returns-then-not-head_ok : goal.returns-then-not-head_ok
returns-then-not-head_ok c = c.refused.ensures ∙ ap (line refused_key) c.number.ensures ∙ asked_headless _ _ c.head_ok.ensures _ (search rules)

pub returns-in_default : goal.returns-in_default
returns-in_default c = c.refused-in_default.ensures ∙ ap (line refused_key) c.number-in_default.ensures ∙ asked_nothing _ _ c.head_ok.ensures _ (search rules) (sym c.in_default.ensures)

pub returns-then-cells-cell : goal.returns-then-cells-cell
returns-then-cells-cell c =
    let n = head-number 0 c.args.medium.now _ c.head_ok.ensures (search rules) in
    c.refused-then-cells-cell.ensures ∙ ap (line refused_key) c.number-then-cells-cell.ensures ∙ asked_beyond _ _ c.head_ok.ensures _ (search rules) _ (sym c.in-Some.ensures) (omega (arith, n, c.head_number-cells.ensures))

pub overflow_cast-cell : goal.overflow_cast-cell
overflow_cast-cell c = let h = head_numbers_fit c.args.medium.now in omega (arith, c.head_number-cells.ensures)

pub slice_bounds-current-end : goal.slice_bounds-current-end
slice_bounds-current-end c = let h = head_numbers_fit c.args.medium.now in omega (arith, c.head_number-cells.ensures)

pub slice_bounds-cell_why-end : goal.slice_bounds-cell_why-end
slice_bounds-cell_why-end c = length_zeros _ 1024 (let h = head_numbers_fit c.args.medium.now in omega (arith, c.head_number-cells.ensures))

pub cell_why-requires : goal.cell_why-requires
cell_why-requires c =
    let m = c.args.medium.now in
    let n = c.head_number-cells in
    let z = zeroed m n.result (32 * head_number 4 m) n.ensures refl in
    (z.current-zero, omega (arith, n.ensures))

pub returns : goal.returns
returns c =
    let n = head-number 0 c.args.medium.now _ c.head_ok.ensures (search rules) in
    c.cell_why.ensures ∙ asked_cell _ _ c.head_ok.ensures _ (search rules) _ (sym c.in-Some.ensures) (omega (arith, n, c.head_number-cells.ensures))
