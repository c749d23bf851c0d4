use Rattle.builder.specs.Bounding.{declared_bounds}
use Rattle.builder.proofs.laws.BoundLaws.{from_floating}
use Rattle.builder.proofs.variables.bounds.declared_bounds.Goals as goal

pub returns-in-Some : goal.returns-in-Some
unfolding declared_bounds
returns-in-Some c = rw c.in-Some.is c.unknown_bounds.ensures

pub returns-in-None : goal.returns-in-None
unfolding declared_bounds
returns-in-None c = rw c.in-None.is (from_floating c.args.floor _ c.bounds_from.ensures)
