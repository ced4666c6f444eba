-- `words::key` is the word as one number. By the bytes that remain.
use native.Mathlib.Omega.{arith}
use Rattle.std.proofs.lemmas.Bool.Decides.{nat_tests}
use Rattle.words.specs.Words.{word_key}
use Rattle.words.proofs.Digits.{key_in-next, key_in-end}
use Rattle.words.proofs.key.Goals as goal

pub returns-then-k : goal.returns-then-k
unfolding word_key
returns-then-k c = let e = key_in-next c.args.s.now c.loop-i.i c.args.w.to c.loop-i.k c.loop-i-test.true in grind (arith, nat_tests)

pub loop-i-preserved : goal.loop-i-preserved
loop-i-preserved c = let e = key_in-next c.args.s.now c.loop-i.i c.args.w.to c.loop-i.k c.loop-i-test.true in grind (arith, nat_tests)

pub returns : goal.returns
unfolding word_key
returns c = let e = key_in-end c.args.s.now c.loop-i.i c.args.w.to c.loop-i.k (omega arith) in grind (arith, nat_tests)
