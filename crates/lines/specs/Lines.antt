-- Lines of bytes that were read, and a line as a decimal number. A line ends before its newline (10), and before the CR (13) of a CR LF.
use Rattle.std.specs.Prelude.{ℕ, zero, suc, ◌+◌, ◌*◌, ◌-◌, Bool, true, ◌&&◌, List, [], ◌∷◌, ltb, leb, eqb, length, get_or, take, drop, Option, Some, None}
use Rattle.std.specs.List.{position_or_len}
use Rattle.scope.specs.Bytes.{pick}
use Rattle.lines.specs.declared.Line.{Line}

-- how many bytes stand before the first newline, or all
unfoldable pub before : List ℕ → ℕ
before s = position_or_len (λ b. eqb b 10) s

-- where the first newline from `at` on stands, or the end
unfoldable pub newline : ℕ → List ℕ → ℕ
newline at s = at + before (drop at s)

-- where a line ends that begins at `at` and whose newline stands at `nl`
unfoldable pub line_end : ℕ → ℕ → List ℕ → ℕ
line_end at nl s = pick (ltb nl (length s) && (ltb at nl && eqb (get_or s (nl - 1) 0) 13)) (nl - 1) nl

-- where the next line would begin
unfoldable pub next_line : ℕ → List ℕ → ℕ
next_line nl s = pick (ltb nl (length s)) (nl + 1) nl

-- the line that begins at a place: a last one without its newline too, and none at the end
unfoldable pub line_at : ℕ → List ℕ → Option Line
line_at at s =
    pick (ltb at (length s)) (Some (record { from = at; to = line_end at (newline at s) s; next = next_line (newline at s) s })) None

abbrev pub and_next : Option Line → (ℕ → Option Line) → Option Line
and_next (Some line) f = f line.next
and_next None f = None

-- the line of number k, counted from 0: from a place on, and of all
unfoldable pub nth_from : ℕ → ℕ → List ℕ → Option Line
nth_from zero at s = line_at at s
nth_from (suc k) at s = and_next (line_at at s) (λ next. nth_from k next s)

unfoldable pub nth_line : ℕ → List ℕ → Option Line
nth_line k s = nth_from k 0 s

-- a line's bytes
abbrev pub line_bytes : Option Line → List ℕ → List ℕ
line_bytes (Some line) s = take (line.to - line.from) (drop line.from s)
line_bytes None s = []

-- digits, and the number that they go on to after those that make n
unfoldable pub is_digit : ℕ → Bool
is_digit b = leb 48 b && leb b 57

unfoldable pub all_digits : List ℕ → Bool
all_digits [] = true
all_digits (b ∷ s) = is_digit b && all_digits s

unfoldable pub number_from : ℕ → List ℕ → ℕ
number_from n [] = n
number_from n (b ∷ s) = number_from (10 * n + (b - 48)) s

-- digits and nothing else, within 64 bits, after those that make n
unfoldable pub decimal_from : ℕ → List ℕ → Option ℕ
decimal_from n s = pick (all_digits s && ltb (number_from n s) 18446744073709551616) (Some (number_from n s)) None

-- one digit more
unfoldable pub with_digit : ℕ → ℕ → Option ℕ
with_digit n b = decimal_from n (b ∷ [])

-- THE DECIMAL NUMBER that a line is, or none: no bytes are none, and zeros in front are accepted
unfoldable pub decimal_of : List ℕ → Option ℕ
decimal_of s = pick (ltb 0 (length s)) (decimal_from 0 s) None
