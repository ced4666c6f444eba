-- What the listing of a medium is: its recovery by the papers' calls, run to the end, then the text of its table; or the refusal's number.
use Rattle.std.specs.Prelude.{ℕ, ◌+◌, ◌*◌, ◌≤◌, List, length, Result, Ok, Err}
use Rattle.scope.specs.Bytes.{number_at}
use Rattle.scope.specs.Recovery.{table_of}
use Rattle.answer.specs.Answer.{number_of}
use Rattle.answer.specs.declared.Refusal.{Refusal}
use Rattle.recovered.specs.declared.Recovered.{Recovered}
use Rattle.recovered.specs.Recovered.{started, recovered}
use Rattle.text.specs.Text.{line, refused_key, or_refused, table_text}

-- THE LISTING of a medium
unfoldable pub listing : List ℕ → List ℕ
listing m =
    let n = number_at 4 0 m in let c = number_at 4 4 m in let end = recovered m in
    or_refused (started m).answer (table_text n c end.state.h (table_of n c end.medium))

-- the text of what a recovery answers and the medium that it leaves
abbrev pub outcome_text : Result Recovered Refusal → List ℕ → List ℕ
outcome_text (Ok r) m = let s = r.numbers in table_text s.cells s.slots s.h (table_of s.cells s.slots m)
outcome_text (Err x) m = line refused_key (number_of x)

-- the table that it tells of stands on the medium
abbrev pub OnMedium : Result Recovered Refusal → List ℕ → Type 0
OnMedium (Ok r) m = (r.numbers.cells ≤ 1024) × (32 + 32 * r.numbers.slots + 8 * r.numbers.cells ≤ length m)
OnMedium (Err x) m = Unit {0}
