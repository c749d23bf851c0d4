use mathlib.Core.Bool.{true}
use Rattle.builder.specs.Bounding.{bounds_from}
use Rattle.builder.proofs.variables.bounds.time_bounds.Goals as goal

pub returns : goal.returns
unfolding bounds_from
returns c = rw (c.last_declared.ensures.bounds (bounds_from true)) c.declared_bounds.ensures
