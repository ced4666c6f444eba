-- Writing a row: a record of its fields is the entry's bytes, and what the writer answers and leaves, case by case.
use Prim.Native.Nat.{ℕ, ◌≤◌, ◌<◌}
use mathlib.Core.Path.{◌≡◌, refl, sym, ap, ◌∙◌}
use mathlib.Core.Bool.{true, false}
use mathlib.Core.List.{List}
use native.Mathlib.Omega.{arith}
use borrow.Author.Tests.{lt-ltb, le-ltb, le-leb, lt-leb}
use lib.Dec.{ltb}
use lib.ListN.{length}
use Rattle.scope.specs.Bytes.{bytes_of, put}
use Rattle.scope.specs.Row.{Entry, update, commit_entry, abort_entry, row_bytes, is_writable, write_row}
use Rattle.number.specs.Record.{record_bytes}
use Rattle.row.specs.Row.{entry}
use Rattle.row.specs.declared.Entry as code
use Rattle.row.specs.declared.Entry.TheVariants.{Update, Commit, Abort}

update-bytes : (n c a b : ℕ) → record_bytes n 1 c 0 a b ≡ row_bytes n (update c a b)
unfolding record_bytes row_bytes bytes_of
update-bytes n c a b = refl

commit_bytes : (n : ℕ) → record_bytes n 2 0 0 0 0 ≡ row_bytes n commit_entry
unfolding record_bytes row_bytes bytes_of
commit_bytes n = refl

abort_bytes : (n : ℕ) → record_bytes n 3 0 0 0 0 ≡ row_bytes n abort_entry
unfolding record_bytes row_bytes bytes_of
abort_bytes n = refl

-- an entry of the code, by its fields
module _ (s t : List ℕ) (at n : ℕ) (e : code.Entry) where
  pub put-update : (c a b : ℕ) → e ≡ Update c a b → t ≡ put s at (record_bytes n 1 c 0 a b) → t ≡ put s at (row_bytes n (entry e))
  put-update c a b p q = q ∙ ap (put s at) (update-bytes n c a b) ∙ ap (λ x. put s at (row_bytes n (entry x))) (sym p)

  pub put_commit : e ≡ Commit → t ≡ put s at (record_bytes n 2 0 0 0 0) → t ≡ put s at (row_bytes n (entry e))
  put_commit p q = q ∙ ap (put s at) (commit_bytes n) ∙ ap (λ x. put s at (row_bytes n (entry x))) (sym p)

  pub put_abort : e ≡ Abort → t ≡ put s at (record_bytes n 3 0 0 0 0) → t ≡ put s at (row_bytes n (entry e))
  put_abort p q = q ∙ ap (put s at) (abort_bytes n) ∙ ap (λ x. put s at (row_bytes n (entry x))) (sym p)

-- what the writer answers and leaves
module _ (n : ℕ) (e : Entry) (r : List ℕ) where
  pub write_short : length r < 32 → (false ≡ is_writable n r) × (r ≡ write_row n e r)
  unfolding is_writable write_row
  write_short h = (simp (lt-leb 32 (length r) h), simp (lt-leb 32 (length r) h))

  pub write_zero : 32 ≤ length r → n ≡ 0 → (false ≡ is_writable n r) × (r ≡ write_row n e r)
  unfolding is_writable write_row
  write_zero h z = let p = le-leb 32 (length r) h in let q : ltb 0 n ≡ false = le-ltb 0 n (omega arith) in (simp (p, q), simp (p, q))

  pub write_entry : (w : List ℕ) → 32 ≤ length r → 0 < n → w ≡ put r 0 (row_bytes n e) → (true ≡ is_writable n r) × (w ≡ write_row n e r)
  unfolding is_writable write_row
  write_entry w h p q = let a = le-leb 32 (length r) h in let b = lt-ltb 0 n p in (simp (a, b), q ∙ simp (a, b))
