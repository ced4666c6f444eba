-- `words::place` is the first place that passes, or the one after the last. By the bytes that remain.
use mathlib.Core.Path.{◌≡◌, sym, ◌∙◌}
use native.Mathlib.Omega.{arith}
use Rattle.std.proofs.lemmas.Bool.Decides.{nat_tests}
use Rattle.words.proofs.Digits.{place_in-next, place_in-end}
use Rattle.words.proofs.place.Goals as goal

pub returns-then-passes : goal.returns-then-passes
returns-then-passes g c = λ t h.
    let e = place_in-next c.args.s.now c.loop-i.i c.args.to t c.loop-i-test.true in
    let p = c.loop-i.invariant.2 t h in
    let q = h _ _ c.byte.type_inv c.passes.ensures in
    grind (arith, nat_tests)

pub loop-i-preserved : goal.loop-i-preserved
loop-i-preserved g c = (
  c.loop-i.invariant.0,
  omega arith,
  λ t h.
      let e = place_in-next c.args.s.now c.loop-i.i c.args.to t c.loop-i-test.true in
      let p = c.loop-i.invariant.2 t h in
      let q = h _ _ c.byte.type_inv c.passes.ensures in
      grind (arith, nat_tests),
)

pub returns : goal.returns
returns g c = λ t h.
    let e = place_in-end c.args.s.now c.loop-i.i c.args.to t (omega arith) in
    let m : c.max.result ≡ c.loop-i.i = omega arith in
    m ∙ sym (c.loop-i.invariant.2 t h ∙ e)
