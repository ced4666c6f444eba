-- What a word of a line is as a number and as a release. A line is its bytes; a place past its end holds 0, which is no digit and no point.
use Rattle.std.specs.Prelude.{ℕ, zero, suc, ◌+◌, ◌*◌, ◌-◌, ◌≤◌, Bool, ◌&&◌, not, List, Option, None, Some, leb, ltb, eqb, length, get_or, ⊤}
use Rattle.scope.specs.Bytes.{pick}
use Rattle.words.specs.declared.Span.{Span}
use Rattle.words.specs.declared.Input.{Input}
use Rattle.words.specs.declared.Input.TheVariants.{Line, Long, End}

-- a line that was read is no longer than the buffer that it stands in
abbrev pub fits : Input → ℕ → Type 0
fits (Line n) size = n ≤ size
fits Long size = ⊤
fits End size = ⊤

-- "0" to "9"
unfoldable pub is_digit : ℕ → Bool
is_digit b = leb 48 b && leb b 57

-- the number with one more digit
abbrev pub more : ℕ → ℕ → ℕ
more n b = n * 10 + (b - 48)

-- the k bytes from i on as decimal digits after n: none where one is no digit, or where the number is not below 2^32
unfoldable pub digits : ℕ → List ℕ → ℕ → ℕ → Option ℕ
digits zero s i n = Some n
digits (suc k) s i n =
    pick (is_digit (get_or s i 0) && leb (more n (get_or s i 0)) 4294967295) (digits k s (i + 1) (more n (get_or s i 0))) None

-- THE NUMBER that the word from `from` to `to` is
unfoldable pub word_number : List ℕ → ℕ → ℕ → Option ℕ
word_number s from to = pick (ltb from to) (digits (to - from) s from 0) None

-- the first of the k places from i on whose byte is as t says, or the place after them
unfoldable pub place_in : (ℕ → Bool) → ℕ → List ℕ → ℕ → ℕ
place_in t zero s i = i
place_in t (suc k) s i = pick (t (get_or s i 0)) i (place_in t k s (i + 1))

abbrev pub is_point : ℕ → Bool
is_point b = eqb b 46

abbrev pub is_space : ℕ → Bool
is_space b = eqb b 32

abbrev pub no_space : ℕ → Bool
no_space b = not (eqb b 32)

-- where the word after a place begins, and where the word at a place ends
unfoldable pub word_from : List ℕ → ℕ → ℕ
word_from s at = place_in no_space (length s - at) s at

unfoldable pub word_to : List ℕ → ℕ → ℕ
word_to s at = place_in is_space (length s - at) s at

-- THE WORD after a place: the bytes up to the next space
abbrev pub word_after : List ℕ → ℕ → Span
word_after s at = record { from = word_from s at; to = word_to s (word_from s at) }

-- a word as one number, its first byte the highest; 0 for one of more than 8 bytes
unfoldable pub key_in : ℕ → List ℕ → ℕ → ℕ → ℕ
key_in zero s i n = n
key_in (suc k) s i n = pick (leb n 72057594037927935) (key_in k s (i + 1) (n * 256 + get_or s i 0)) 0

unfoldable pub word_key : List ℕ → Span → ℕ
word_key s w = key_in (w.to - w.from) s w.from 0

-- major and minor, numbers of their own below 2^16, as a cell holds them: 1.10 is not 1.1, and comes after 1.9
abbrev pub joined_release : Option ℕ → Option ℕ → Option ℕ
joined_release None b = None
joined_release (Some major) None = None
joined_release (Some major) (Some minor) = pick (leb major 65535 && leb minor 65535) (Some (major + 65536 * minor)) None

-- THE RELEASE that the word is: a number, a point, a number
unfoldable pub word_release : List ℕ → ℕ → ℕ → Option ℕ
word_release s from to =
    let p = place_in is_point (to - from) s from in
    pick (ltb p to) (joined_release (word_number s from p) (word_number s (p + 1) to)) None
