-- The text of a listing ("The listing program"): numbers in decimal, lines key=value, in ASCII.
use Rattle.std.specs.Prelude.{ℕ, zero, suc, ◌+◌, ◌/◌, ◌%◌, List, [], ◌∷◌, ◌++◌, ltb, eqb, decimal}
use Rattle.scope.specs.Bytes.{pick}
use Rattle.scope.specs.Keeper.{Answer, done, refused, cell, head, clean, stored, part}

-- the decimal digits of n, the highest first, no zero in front, at most so many; `digits_of_32` and `digits_of_64` say that they are the text of a number
unfoldable pub digits : ℕ → ℕ → List ℕ
digits zero n = []
digits (suc left) n = pick (ltb n 10) ((48 + n) ∷ []) (digits left (n / 10) ++ ((48 + n % 10) ∷ []))

-- the keys, with their '='
abbrev pub cells_key : List ℕ
cells_key = 99 ∷ 101 ∷ 108 ∷ 108 ∷ 115 ∷ 61 ∷ []

abbrev pub slots_key : List ℕ
slots_key = 115 ∷ 108 ∷ 111 ∷ 116 ∷ 115 ∷ 61 ∷ []

abbrev pub head_key : List ℕ
head_key = 104 ∷ 101 ∷ 97 ∷ 100 ∷ 61 ∷ []

abbrev pub cell_key : List ℕ
cell_key = 99 ∷ 101 ∷ 108 ∷ 108 ∷ 61 ∷ []

abbrev pub part_key : List ℕ
part_key = 112 ∷ 97 ∷ 114 ∷ 116 ∷ 61 ∷ []

abbrev pub release_key : List ℕ
release_key = 114 ∷ 101 ∷ 108 ∷ 101 ∷ 97 ∷ 115 ∷ 101 ∷ 61 ∷ []

abbrev pub refused_key : List ℕ
refused_key = 114 ∷ 101 ∷ 102 ∷ 117 ∷ 115 ∷ 101 ∷ 100 ∷ 61 ∷ []

-- key, number, line end
unfoldable pub line : List ℕ → ℕ → List ℕ
line key n = key ++ decimal n ++ (10 ∷ [])

-- a refusal prints its number only
abbrev pub or_refused : Answer → List ℕ → List ℕ
or_refused (done v) text = text
or_refused (refused n) text = line refused_key n
or_refused (cell c) text = text
or_refused head text = text
or_refused clean text = text
or_refused stored text = text
or_refused (part b) text = text

-- major, a point, minor
unfoldable pub release_line : ℕ → ℕ → List ℕ
release_line major minor = release_key ++ decimal major ++ (46 ∷ []) ++ decimal minor ++ (10 ∷ [])

-- a cell's value is part number (4 bytes), release major (2) and minor (2); an empty cell has no lines
unfoldable pub cell_text : ℕ → ℕ → List ℕ
cell_text i v =
    pick (eqb v 0) []
    (line cell_key i ++ line part_key (v % 4294967296) ++ release_line (v / 4294967296 % 65536) (v / 281474976710656 % 65536))

-- the cells of a table, from cell i on
unfoldable pub cells_text : ℕ → List ℕ → List ℕ
cells_text i [] = []
cells_text i (v ∷ vs) = cell_text i v ++ cells_text (i + 1) vs

-- N, C, h and the table
unfoldable pub table_text : ℕ → ℕ → ℕ → List ℕ → List ℕ
table_text n c h table = line cells_key n ++ line slots_key c ++ line head_key h ++ cells_text 0 table
