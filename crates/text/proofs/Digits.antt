-- The text of a number, digit by digit: the decimal digits of n, the highest first, no zero in front, at most so many; ten are enough for 32 bits, twenty for 64.
use Prim.Native.Nat.{ℕ, ◌<◌}
use mathlib.Core.Path.{◌≡◌}
use native.Mathlib.Omega.{arith}
use borrow.Author.Tests.{lt-ltb, le-ltb}
use Rattle.std.specs.Fmt.{decimal}
use Rattle.std.proofs.lemmas.Fmt.{AppendsLastDigit, decimal_from_appends}
use Rattle.text.specs.Text.{digits}
use Rattle.text.proofs.Writing.{length_decimal_32, length_decimal_64}

appends : AppendsLastDigit digits
unfolding digits
appends = record { one = λ k n h. simp (lt-ltb n 10 h); more = λ k n h. simp (le-ltb n 10 h) }

-- THE TEXT OF A NUMBER is its digits
pub digits_of_32 : (n : ℕ) → n < 4294967296 → digits 10 n ≡ decimal n
digits_of_32 n h = decimal_from_appends digits appends 10 n (omega arith) (length_decimal_32 n h)

pub digits_of_64 : (n : ℕ) → n < 18446744073709551616 → digits 20 n ≡ decimal n
digits_of_64 n h = decimal_from_appends digits appends 20 n (omega arith) (length_decimal_64 n h)
