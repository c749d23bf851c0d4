use Rattle.area.proofs.Listings.{none_listed, found_as-None, found_as-Some}
use Rattle.area.proofs.errors.Errors.list.Goals as goal

pub returns-in-None : goal.returns-in-None
returns-in-None c = rw (c.in-None.is, found_as-None) (none_listed _)

pub returns-in-Some : goal.returns-in-Some
returns-in-Some c = rw (c.in-Some.is, found_as-Some) c.put.ensures
