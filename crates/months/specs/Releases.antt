-- The releases that were met.
use Rattle.std.specs.Prelude.{List, take}
use Rattle.months.specs.declared.Met.{Met}
use Rattle.months.specs.declared.releases.Releases.{Releases}

-- of 64 places those that are in use
abbrev pub in_use : Releases → List Met
in_use r = take r.used r.places
