-- `counter_text::screen` meets its contract. What is said of the medium, at the numbers that 32 bits hold, is what is asked of it.
use mathlib.Core.Path.{◌∙◌}
use Rattle.std.specs.Option.{option_or}
use Rattle.counter_text.proofs.Said.{screen_is}
use Rattle.counter_text.proofs.screen.Goals as goal

pub returns : goal.returns
returns c =
    let r = c.recover-start.ensures in
    let h = c.or-refused.ensures ∙ (λ i. option_or (c.err.ensures.value i) (c.err-2.ensures.value i)) in
    let e = screen_is _ _ _ _ _ _ _ _ _ _ c.asked_in-question.ensures c.unit_of-unit.ensures c.part_of.ensures c.span_refusal-span.ensures r h in
    record { text = c.text_of.ensures ∙ e; medium_after = r.medium }
