-- `lines::decimal_of` meets its contract. Invariant: the bytes that remain, after the number so far, give what all give.
use Rattle.std.proofs.Common.{◌≡◌, ◌<◌, length, sym, ◌∙◌, arith, rules, tests}
use Rattle.lines.proofs.Numbered.{decimal_again, decimal_stop, decimal-end, decimal_blank, decimal_all}
use Rattle.lines.proofs.decimal_of.Goals as goal

pub returns-then-is_empty : goal.returns-then-is_empty
returns-then-is_empty c = let z : length c.args.line.now ≡ 0 = search (rules, tests) in decimal_blank _ z

pub loop-byte-init : goal.loop-byte-init
loop-byte-init c = let z : 0 < length c.args.line.now = search (rules, tests) in (omega arith, sym (decimal_all _ z))

pub returns-in_err-n : goal.returns-in_err-n
returns-in_err-n c =
    let l = c.loop-byte in
    c.from_residual.ensures ∙ decimal_stop _ l.n l.byte-index (omega arith) (sym c.in_err-n.ensures) ∙ sym l.invariant.1

pub loop-byte-preserved : goal.loop-byte-preserved
loop-byte-preserved c =
    let l = c.loop-byte in
    let q = decimal_again c.args.line.now l.n l.byte-index (omega arith) _ (sym c.in_ok-n.ensures) in
    (q.1, l.invariant.1 ∙ q.0)

pub returns : goal.returns
returns c = let l = c.loop-byte in decimal-end _ l.n l.byte-index (omega arith) l.invariant.0 ∙ sym l.invariant.1
