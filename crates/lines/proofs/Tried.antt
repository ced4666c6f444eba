-- Lines and numbers of some inputs, computed: a CR LF, a blank line, a last line without its newline; zeros in front, and both sides of 64 bits.
use mathlib.Core.Path.{◌≡◌, refl}
use mathlib.Core.List.{List, [], ◌∷◌}
use Prim.Native.Nat.{ℕ}
use Rattle.std.specs.Prelude.{Option, Some, None}
use Rattle.lines.specs.declared.Line.{Line}
use Rattle.lines.specs.Lines.{before, newline, line_end, next_line, line_at, nth_from, nth_line, is_digit, all_digits, number_from, decimal_from, decimal_of}

-- "ab", CR LF, LF, "7"
abbrev input : List ℕ
input = 97 ∷ 98 ∷ 13 ∷ 10 ∷ 10 ∷ 55 ∷ []

abbrev found : ℕ → ℕ → ℕ → Option Line
found from to next = Some (record { from = from; to = to; next = next })

pub three_lines : nth_line 0 input ∷ nth_line 1 input ∷ nth_line 2 input ∷ nth_line 3 input ∷ [] ≡ found 0 2 4 ∷ found 4 4 5 ∷ found 5 6 6 ∷ None ∷ []
unfolding nth_line nth_from line_at next_line line_end newline before
three_lines = refl

-- "007"; 18446744073709551615, and one more; no bytes; "7" CR
pub five-numbers :
    decimal_of (48 ∷ 48 ∷ 55 ∷ [])
    ∷ decimal_of (49 ∷ 56 ∷ 52 ∷ 52 ∷ 54 ∷ 55 ∷ 52 ∷ 52 ∷ 48 ∷ 55 ∷ 51 ∷ 55 ∷ 48 ∷ 57 ∷ 53 ∷ 53 ∷ 49 ∷ 54 ∷ 49 ∷ 53 ∷ [])
    ∷ decimal_of (49 ∷ 56 ∷ 52 ∷ 52 ∷ 54 ∷ 55 ∷ 52 ∷ 52 ∷ 48 ∷ 55 ∷ 51 ∷ 55 ∷ 48 ∷ 57 ∷ 53 ∷ 53 ∷ 49 ∷ 54 ∷ 49 ∷ 54 ∷ [])
    ∷ decimal_of [] ∷ decimal_of (55 ∷ 13 ∷ []) ∷ []
    ≡ Some 7 ∷ Some 18446744073709551615 ∷ None ∷ None ∷ None ∷ []
unfolding decimal_of decimal_from all_digits is_digit number_from
five-numbers = refl
