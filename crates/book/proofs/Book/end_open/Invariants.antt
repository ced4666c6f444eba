-- `book::Book::end_open` meets its contract: no write before the loop's place is open.
use Rattle.std.proofs.Common.{◌≢◌, All, take}
use Rattle.book.specs.declared.Fate.TheVariants.{Open}
use Rattle.book.proofs.Book.end_open.Given as goal

abbrev pub invariant-loop-write : goal.invariant-loop-write
invariant-loop-write l = All (λ w. w.fate ≢ Open) (take l.write-index l.write-items)
