-- `words::word_after` is the first word: from the first place that is no space to the first after it that is one.
use mathlib.Core.Path.{ap, ◌∙◌}
use Rattle.std.proofs.Common.{rules, tests}
use Rattle.words.specs.Words.{no_space, is_space, word_from, word_to}
use Rattle.words.proofs.word_after.Goals as goal

pub returns : goal.returns
unfolding word_from word_to
returns c =
    let from = c.place-from.ensures no_space (λ b r h p. search (rules, tests)) in
    let to = c.place-to.ensures is_space (λ b r h p. search (rules, tests)) in
    λ i. record { from = from i; to = (to ∙ ap (word_to c.args.s.now) from) i }
