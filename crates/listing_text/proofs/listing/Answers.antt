-- `listing_text::listing` meets its contract. The text of what a recovery leaves is the listing.
use mathlib.Core.Path.{◌∙◌}
use native.Mathlib.Omega.{arith}
use Rattle.listing_text.proofs.Listed.{outcome_listing, outcome_fits}
use Rattle.listing_text.proofs.listing.Goals as goal

pub text_of-requires : goal.text_of-requires
text_of-requires c = outcome_fits _ _ _ c.recover-outcome.ensures (omega (arith, c.recover-outcome.auto))

pub returns : goal.returns
returns c =
    let r = c.recover-outcome.ensures in
    record { text = c.text_of.ensures ∙ outcome_listing _ _ _ r; medium_after = r.medium }
