-- `months::Month::new` meets its contract: no place is in use.
use Rattle.months.specs.Month.{places, untallied, tally}
use Rattle.months.proofs.Month.new.Goals as goal

pub returns : goal.returns
unfolding places untallied tally
returns c = rw c.new.ensures
