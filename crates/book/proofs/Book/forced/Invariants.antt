-- `book::Book::forced` meets its contract: no write before the loop's place waits for this number.
use Rattle.std.proofs.Common.{◌≢◌, All, take}
use Rattle.book.specs.declared.Fate.TheVariants.{Committed}
use Rattle.book.proofs.Book.forced.Given as goal

abbrev pub invariant-loop-write : goal.invariant-loop-write
invariant-loop-write l = All (λ w. w.fate ≢ Committed l.n) (take l.write-index l.write-items)
