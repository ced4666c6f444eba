-- What is printed of a cell (ticket 3): `cell`, `value`, `reason`, `entry`, `end`, or the refusal's number. Refusals in document 01's order: 1, 4, 2.
use Rattle.std.specs.Prelude.{ℕ, ◌/◌, ◌%◌, List, [], ◌∷◌, ◌++◌, ltb, eqb, get_or, decimal, Option, Some, None}
use Rattle.scope.specs.Bytes.{pick, number_at}
use Rattle.scope.specs.Keeper.{is_head_ok}
use Rattle.scope.specs.Demands.{stored_journal}
use Rattle.recovered.specs.Recovered.{started}
use Rattle.values.specs.Values.{values_of}
use Rattle.text.specs.Text.{line, cell_key, refused_key, or_refused}
use Rattle.reasons.specs.declared.Reason.{Reason}
use Rattle.reasons.specs.declared.Reason.TheVariants.{Table, Written, Restored}
use Rattle.reasons.specs.declared.Decision.{Decision}
use Rattle.reasons.specs.Reason.{why}

abbrev pub value_key : List ℕ
value_key = 118 ∷ 97 ∷ 108 ∷ 117 ∷ 101 ∷ 61 ∷ []

abbrev pub entry_key : List ℕ
entry_key = 101 ∷ 110 ∷ 116 ∷ 114 ∷ 121 ∷ 61 ∷ []

abbrev pub end_key : List ℕ
end_key = 101 ∷ 110 ∷ 100 ∷ 61 ∷ []

-- empty, with its line end
abbrev pub empty_end : List ℕ
empty_end = 101 ∷ 109 ∷ 112 ∷ 116 ∷ 121 ∷ 10 ∷ []

-- a number and the byte after it
abbrev pub ended : ℕ → ℕ → List ℕ
ended n b = decimal n ++ (b ∷ [])

-- empty, or part, colon, release: major, a point, minor
unfoldable pub value_line : ℕ → List ℕ
value_line v =
    pick (eqb v 0) (value_key ++ empty_end)
    (value_key ++ ended (v % 4294967296) 58 ++ ended (v / 4294967296 % 65536) 46 ++ ended (v / 281474976710656 % 65536) 10)

-- the key, the reason's word, the line end
abbrev pub reason_line : Reason → List ℕ
reason_line Table = 114 ∷ 101 ∷ 97 ∷ 115 ∷ 111 ∷ 110 ∷ 61 ∷ 116 ∷ 97 ∷ 98 ∷ 108 ∷ 101 ∷ 10 ∷ []
reason_line Written = 114 ∷ 101 ∷ 97 ∷ 115 ∷ 111 ∷ 110 ∷ 61 ∷ 119 ∷ 114 ∷ 105 ∷ 116 ∷ 116 ∷ 101 ∷ 110 ∷ 10 ∷ []
reason_line Restored = 114 ∷ 101 ∷ 97 ∷ 115 ∷ 111 ∷ 110 ∷ 61 ∷ 114 ∷ 101 ∷ 115 ∷ 116 ∷ 111 ∷ 114 ∷ 101 ∷ 100 ∷ 10 ∷ []

-- the five lines
unfoldable pub five_lines : ℕ → ℕ → Decision → List ℕ
five_lines c v d = line cell_key c ++ value_line v ++ reason_line d.reason ++ line entry_key d.entry ++ line end_key d.end

-- a cell of the table, its recovered value and the decision over the stored journal; or the number that recovery start refuses with
unfoldable pub cell_why : List ℕ → ℕ → List ℕ
cell_why m c =
    or_refused (started m).answer
    (five_lines c (get_or (values_of m) c 0) (why c (number_at 4 8 m) (stored_journal (number_at 4 0 m) (number_at 4 4 m) m)))

abbrev pub asked_why : List ℕ → Option ℕ → List ℕ
asked_why m (Some c) = pick (ltb c (number_at 4 0 m)) (cell_why m c) (line refused_key 4)
asked_why m None = line refused_key 4

-- WHAT IS SAID of the cell that a line asks for: 1 where the head is out of rule, 4 where there is no such cell or no number, 2 by recovery start
unfoldable pub why_text : List ℕ → Option ℕ → List ℕ
why_text m asked = pick (is_head_ok m) (asked_why m asked) (line refused_key 1)
