-- What the counts of a month's end claim (ticket 13: "Counts are proved equal to the non-empty cells of the recovered tables"), over the releases of those
-- cells in the order met.
use Rattle.std.specs.Prelude.{ℕ, ◌+◌, ◌≤◌, ◌<◌, ◌≡◌, List, [], ◌∷◌, ◌++◌, eqb, length, get_or}
use Rattle.scope.specs.Bytes.{pick}
use Rattle.scope.specs.Keeper.{Answer, done, refused, cell, head, clean, stored, part}
use Rattle.recovered.specs.Recovered.{started}
use Rattle.values.specs.Values.{values_of}
use Rattle.months.specs.Month.{release_of, place, Tally, untallied, add_medium}

-- the releases of a table's non-empty cells, by rising number
abbrev pub releases_in : List ℕ → List ℕ
releases_in [] = []
releases_in (v ∷ vs) = pick (eqb v 0) (releases_in vs) (release_of v ∷ releases_in vs)

-- of a file's recovered table; a file that recovery refuses has none
abbrev pub unless_refused : Answer → List ℕ → List ℕ
unless_refused (done v) rs = rs
unless_refused (refused n) rs = []
unless_refused (cell c) rs = []
unless_refused head rs = []
unless_refused clean rs = []
unless_refused stored rs = []
unless_refused (part b) rs = []

abbrev pub releases_on : List ℕ → List ℕ
releases_on m = unless_refused (started m).answer (releases_in (values_of m))

abbrev pub is_refused : Answer → ℕ
is_refused (done v) = 0
is_refused (refused n) = 1
is_refused (cell c) = 0
is_refused head = 0
is_refused clean = 0
is_refused stored = 0
is_refused (part b) = 0

-- of all files, in their order; how many are refused; and the month's end over them
abbrev pub releases_met : List (List ℕ) → List ℕ
releases_met [] = []
releases_met (m ∷ ms) = releases_on m ++ releases_met ms

abbrev pub refused_of : List (List ℕ) → ℕ
refused_of [] = 0
refused_of (m ∷ ms) = is_refused (started m).answer + refused_of ms

abbrev pub run_from : List (List ℕ) → Tally → Tally
run_from [] t = t
run_from (m ∷ ms) t = run_from ms (add_medium m t)

abbrev pub run : List (List ℕ) → Tally
run ms = run_from ms untallied

-- how often a release is among these, and a list's sum
abbrev pub often : ℕ → List ℕ → ℕ
often r [] = 0
often r (x ∷ xs) = pick (eqb r x) 1 0 + often r xs

abbrev pub sum : List ℕ → ℕ
sum [] = 0
sum (x ∷ xs) = x + sum xs

-- the cells are all counted, each once; a release that has a count has exactly its cells; and others are counted only when 64 releases have counts: until
-- then every release met has one
pub record Counted (rs : List ℕ) (t : Tally) : Type 0 where
  pub cells : t.cells ≡ length rs
  pub together : sum t.counts + t.others ≡ length rs
  pub each : (r : ℕ) → place t.releases r t.met < t.met → get_or t.counts (place t.releases r t.met) 0 ≡ often r rs
  pub few : t.met ≤ 64
  pub no_others : t.met < 64 → t.others ≡ 0
  pub all_met : t.met < 64 → (r : ℕ) → place t.releases r t.met ≡ t.met → often r rs ≡ 0

-- THE CLAIM, of any run over fewer files and cells than 64 bits count
pub record MonthEnd (ms : List (List ℕ)) (t : Tally) : Type 0 where
  pub stores : t.stores ≡ length ms
  pub refused : t.refused ≡ refused_of ms
  pub counted : Counted (releases_met ms) t

abbrev pub Right : Type 0
Right =
    (ms : List (List ℕ)) → length ms < 18446744073709551616 → length (releases_met ms) < 18446744073709551616
    → MonthEnd ms (run ms)
