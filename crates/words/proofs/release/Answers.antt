-- `words::release` is the word's release: the numbers before and after its first point, joined.
use native.Mathlib.Omega.{arith}
use Rattle.std.proofs.Common.{rules, tests}
use Rattle.std.proofs.lemmas.Bool.Decides.{nat_tests}
use Rattle.words.specs.Words.{is_point, word_release}
use Rattle.words.proofs.release.Goals as goal

pub returns-then-w-point : goal.returns-then-w-point
unfolding word_release
returns-then-w-point c =
    let e = c.place-point.ensures is_point (λ b r h p. search (rules, tests)) in
    grind (arith, nat_tests)

pub returns-in_err-major : goal.returns-in_err-major
unfolding word_release
returns-in_err-major c =
    let e = c.place-point.ensures is_point (λ b r h p. search (rules, tests)) in
    grind (arith, nat_tests)

pub returns-in_err-minor : goal.returns-in_err-minor
unfolding word_release
returns-in_err-minor c =
    let e = c.place-point.ensures is_point (λ b r h p. search (rules, tests)) in
    grind (arith, nat_tests)

pub returns-then-major-gt65535 : goal.returns-then-major-gt65535
unfolding word_release
returns-then-major-gt65535 c =
    let e = c.place-point.ensures is_point (λ b r h p. search (rules, tests)) in
    grind (arith, nat_tests)

pub returns : goal.returns
unfolding word_release
returns c =
    let e = c.place-point.ensures is_point (λ b r h p. search (rules, tests)) in
    grind (arith, nat_tests)
