-- What a recovery leaves, as text: N and C of the state are the head's, so the text of the outcome is the listing of the medium at first.
use Prim.Native.Nat.{ℕ}
use mathlib.Core.Path.{◌≡◌, refl, ◌∙◌}
use mathlib.Core.List.{List}
use native.Mathlib.Omega.{arith}
use lib.ListN.{length}
use Rattle.std.specs.Prelude.{Result, Ok, Err}
use Rattle.scope.specs.Bytes.{number_at}
use Rattle.scope.specs.Recovery.{table_of}
use Rattle.state.specs.State.{state_of}
use Rattle.answer.specs.declared.Refusal.{Refusal}
use Rattle.text.specs.Text.{or_refused, table_text}
use Rattle.recovered.specs.declared.Recovered.{Recovered}
use Rattle.recovered.specs.Recovered.{started, recovered, answer_of, state_after, Recovers}
use Rattle.recovered.proofs.Sizes.{started_cases, recovered_sizes, recovers_sizes}
use Rattle.listing_text.specs.Listing.{listing, outcome_text, OnMedium}

-- what a recovery leaves

module _ (m : List ℕ) where
  started-text : (f : ℕ → ℕ → List ℕ)
      → or_refused (started m).answer (f (started m).keeper.state.cells (started m).keeper.state.slots)
      ≡ or_refused (started m).answer (f (number_at 4 0 m) (number_at 4 4 m))
  started-text f = started_cases m (λ a n c. or_refused a (f n c) ≡ or_refused a (f (number_at 4 0 m) (number_at 4 4 m))) refl (λ x a b. refl)

  module _ (m' : List ℕ) where
    -- the table of the state after it, or the refusal of its start
    table_after : (o : Result Recovered Refusal) → let s = state_after o in
        outcome_text o m' ≡ or_refused (answer_of o) (table_text s.cells s.slots s.h (table_of s.cells s.slots m'))
    unfolding state_of
    table_after (Ok r) = refl
    table_after (Err x) = refl

    pub outcome_listing : (o : Result Recovered Refusal) → Recovers m o m' → outcome_text o m' ≡ listing m
    unfolding listing
    outcome_listing o r =
        let u = (recovered_sizes m).0 in
        let v = (recovered_sizes m).1 in
        table_after o
        ∙ (λ i. or_refused (r.answer i) (table_text (r.state i).cells (r.state i).slots (r.state i).h (table_of (r.state i).cells (r.state i).slots (r.medium i))))
        ∙ (λ i. or_refused (started m).answer (table_text (u i) (v i) (recovered m).state.h (table_of (u i) (v i) (recovered m).medium)))
        ∙ started-text (λ a b. table_text a b (recovered m).state.h (table_of a b (recovered m).medium))

    pub outcome_fits : (o : Result Recovered Refusal) → Recovers m o m' → length m' ≡ length m → OnMedium o m'
    outcome_fits (Ok o) r l =
        let s = recovers_sizes m o m' r in
        (omega (arith, s.0.cells≤), omega (arith, s.0.long))
    outcome_fits (Err x) r l = tt
