-- `words::number` is the word's number. By the digits that remain: those from the start after 0 give what those from i on after n give.
use native.Mathlib.Omega.{arith}
use Rattle.std.proofs.lemmas.Bool.Decides.{nat_tests}
use Rattle.words.specs.Words.{word_number}
use Rattle.words.proofs.Digits.{digits-next, digits-end}
use Rattle.words.proofs.number.Goals as goal

pub returns-then-is_empty : goal.returns-then-is_empty
unfolding word_number
returns-then-is_empty c = grind (arith, nat_tests)

pub returns-then-not-is_ascii_digit : goal.returns-then-not-is_ascii_digit
unfolding word_number
returns-then-not-is_ascii_digit c =
    let e = digits-next c.args.s.now c.loop-i.i c.args.w.to c.loop-i.n c.loop-i-test.true in grind (arith, nat_tests)

pub returns-in_err-checked_mul : goal.returns-in_err-checked_mul
unfolding word_number
returns-in_err-checked_mul c =
    let e = digits-next c.args.s.now c.loop-i.i c.args.w.to c.loop-i.n c.loop-i-test.true in grind (arith, nat_tests)

pub returns-in_err-n : goal.returns-in_err-n
unfolding word_number
returns-in_err-n c =
    let e = digits-next c.args.s.now c.loop-i.i c.args.w.to c.loop-i.n c.loop-i-test.true in grind (arith, nat_tests)

pub loop-i-preserved : goal.loop-i-preserved
loop-i-preserved c =
    let e = digits-next c.args.s.now c.loop-i.i c.args.w.to c.loop-i.n c.loop-i-test.true in grind (arith, nat_tests)

pub returns : goal.returns
unfolding word_number
returns c = let e = digits-end c.args.s.now c.loop-i.i c.args.w.to c.loop-i.n (omega arith) in grind (arith, nat_tests)
