-- `counter_text::asked_in` meets its contract. Line by line.
use mathlib.Core.Path.{sym, ap, ◌∙◌}
use Rattle.lines.specs.Lines.{decimal_of}
use Rattle.counter_text.proofs.Said.{no_lowest, no_count, no_part, bad_part, with_part}
use Rattle.counter_text.proofs.asked_in.Goals as goal

pub returns-in_err-lowest : goal.returns-in_err-lowest
returns-in_err-lowest c = c.from_residual.ensures ∙ no_lowest _ (sym (c.in_err-lowest.ensures ∙ ap decimal_of c.nth_bytes.ensures))

pub returns-in_err-count : goal.returns-in_err-count
returns-in_err-count c =
    c.from_residual-in_err-count.ensures
    ∙ no_count _ _ (sym (c.in_ok-lowest.ensures ∙ ap decimal_of c.nth_bytes.ensures)) (sym (c.in_err-count.ensures ∙ ap decimal_of c.nth_bytes-2.ensures))

pub returns-in_default : goal.returns-in_default
returns-in_default c =
    no_part _ _ (sym (c.in_ok-lowest.ensures ∙ ap decimal_of c.nth_bytes.ensures)) _ (sym (c.in_ok-count.ensures ∙ ap decimal_of c.nth_bytes-2.ensures)) (sym c.in_default.ensures)

pub returns-in_err-part : goal.returns-in_err-part
returns-in_err-part c =
    c.from_residual-in_err-part.ensures
    ∙ bad_part _ _ (sym (c.in_ok-lowest.ensures ∙ ap decimal_of c.nth_bytes.ensures)) _ (sym (c.in_ok-count.ensures ∙ ap decimal_of c.nth_bytes-2.ensures)) _ (sym c.in-Some.ensures) (sym (c.in_err-part.ensures ∙ ap decimal_of c.nth_bytes-3.ensures))

pub returns : goal.returns
returns c =
    with_part _ _ (sym (c.in_ok-lowest.ensures ∙ ap decimal_of c.nth_bytes.ensures)) _ (sym (c.in_ok-count.ensures ∙ ap decimal_of c.nth_bytes-2.ensures)) _ (sym c.in-Some.ensures) _ (sym (c.in_ok-part.ensures ∙ ap decimal_of c.nth_bytes-3.ensures))
