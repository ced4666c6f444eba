-- `lines::newline` meets its contract. What the search from a place on gives.
use Rattle.std.proofs.Common.{sym, arith, length-drop}
use lib.Seq.{take_all}
use Rattle.lines.proofs.Lined.{newline_found, newline_not_found}
use Rattle.lines.proofs.newline.Goals as goal

pub returns-in-Some : goal.returns-in-Some
returns-in-Some c =
    let s = c.args.s.now in
    newline_found s _ c.args.at c.requires (take_all _ _ (omega (arith, length-drop c.args.at s))) _ (sym c.in-Some.ensures)

pub returns-in-None : goal.returns-in-None
returns-in-None c =
    let s = c.args.s.now in
    newline_not_found s _ c.args.at c.requires (take_all _ _ (omega (arith, length-drop c.args.at s))) (sym c.in-None.ensures)
